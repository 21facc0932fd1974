-- `fifo::oldest_lands` meets its contract. Assumes nothing.
use mathlib.Core.Path.{sym, ◌∙◌}
use native.Mathlib.Omega.{arith}
use Rattle.output.specs.Output.{OutputState, holding, stored, lands}
use Rattle.output.proofs.Contents.{all_slots, moved_down}
use Rattle.output.proofs.Granting.{grant_lands, grant_no_room, grant_empty, has_room}
use Rattle.fifo.proofs.oldest_lands.Goals as goal

pub store-requires : goal.store-requires
store-requires c = has_room _ _ (sym c.room.ensures ∙ c.if-room.true)

pub move_down-requires : goal.move_down-requires
move_down-requires c = let l = c.requires.laid in
    record { slots_len = all_slots _ l; held_nonzero = (c.if-o-gt0.true, omega (arith, l.fits, l.within)) }

pub returns-then-room : goal.returns-then-room
unfolding lands holding stored
returns-then-room c = let a = c.args in
    let l = c.requires.laid in
    let x : OutputState = record { output = a.o; slots = a.slots.now } in
    let pos = c.if-o-gt0.true in
    let g = grant_lands x a.buffer.now l pos (sym c.room.ensures ∙ c.if-room.true) in
    rw (g, c.landed.ensures, c.move_down.ensures, moved_down x l pos, c.store.ensures)

pub returns-then-o-gt0 : goal.returns-then-o-gt0
returns-then-o-gt0 c = let g = grant_no_room _ _ c.requires.laid c.if-o-gt0.true (sym c.room.ensures ∙ c.if-room.false) in
    rw g (c.no_landing.ensures _ _)

pub returns : goal.returns
returns c = let a = c.args in
    let x : OutputState = record { output = a.o; slots = a.slots.now } in
    rw (grant_empty x a.buffer.now c.if-o-gt0.false) (c.no_landing-2.ensures _ _)
