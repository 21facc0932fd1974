-- The output rules over a list of inputs, each a grant and a word or none, with ENABLE as a truth value: the conditions under which no word is lost, and what
-- then has landed. Which words come, and what a lost word does, is the matter of the module above.
use Rattle.std.specs.Prelude.{Bool, false, List, [], ◌∷◌, ◌++◌, ◌≡◌, ℕ, ◌+◌, ◌*◌, ◌≤◌, ◌<◌, length, take, drop, Option, None, Some}
use Rattle.output.specs.Output.{OutputState, contents, count_sample, Granted as Ruled, grant, offer}
use Rattle.queue.specs.Queue.{Input, words, Granted, Spaced}
use Rattle.landing.specs.Memory.{with_words}

-- Output and frame buffer.
pub record Out : Type 0 where
  pub state : OutputState
  pub buffer : List ℕ

-- Rule 1 at an input, the sample being counted.
abbrev pub first_rule : Bool → Out → Input ℕ → Ruled
first_rule on o i = grant i.grant on (record { output = count_sample o.state.output; slots = o.state.slots }) o.buffer

-- Rule 9 for a word that finds room, if one comes.
unfoldable pub take_in : Option ℕ → OutputState → OutputState
take_in None x = x
take_in (Some v) x = (offer v x).state

-- One input, and some.
unfoldable pub put : Bool → Out → Input ℕ → Out
put on o i = record { state = take_in i.word (first_rule on o i).state; buffer = (first_rule on o i).buffer }

unfoldable pub puts : Bool → Out → List (Input ℕ) → Out
puts on o [] = o
puts on o (i ∷ is) = puts on (put on o i) is

-- Every word that comes finds room in the FIFO.
abbrev pub Fits : Bool → Out → List (Input ℕ) → Type 0
Fits on o [] = Unit {0}
Fits on o (i ∷ is) =
    ((v : ℕ) → i.word ≡ Some v → (first_rule on o i).state.output.held < (first_rule on o i).state.output.depth) × Fits on (put on o i) is

-- A depth (W9), grants enough for it, words s samples apart, room for all of them in the frame buffer, and none while ENABLE is 0.
pub record Conditions (on : Bool) (depth s : ℕ) (buffer : List ℕ) (is : List (Input ℕ)) : Type 0 where
  pub deep : 1 ≤ depth
  pub positive : 1 ≤ s
  pub granted : Granted depth s is
  pub spaced : Spaced s is
  pub room : 4 * length (words is) ≤ length buffer
  pub enabled : on ≡ false → words is ≡ []

-- After some inputs: the first of their words, as many as landed counts, stand in memory, and the rest are held, in order; `in_time`: what came in
-- the first t samples has landed once depth * s more are over.
pub record Landed (depth s start : ℕ) (memory : List ℕ) (is : List (Input ℕ)) (o : Out) : Type 0 where
  pub none_discarded : o.state.output.counts.discarded ≡ 0
  pub completed : o.state.output.counts.completed ≡ length (words is)
  pub in_memory : take start memory ++ o.buffer ≡ with_words start (take o.state.output.counts.landed (words is)) memory
  pub held : contents o.state ≡ drop o.state.output.counts.landed (words is)
  pub split : o.state.output.counts.landed + o.state.output.held ≡ length (words is)
  pub in_time : (t : ℕ) → t + depth * s ≤ length is → length (words (take t is)) ≤ o.state.output.counts.landed
