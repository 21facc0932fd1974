-- The fields of ESCR and ESUR (W6; 004, 32.5.7 and 32.5.8).
use Rattle.std.specs.Prelude.{ℕ}
use Rattle.bits.specs.Bits.{field}

-- The delimiters of frame start, line start, line end and frame end.
abbrev pub fsc : ℕ → ℕ
fsc escr = field 7 0 escr

abbrev pub lsc : ℕ → ℕ
lsc escr = field 15 8 escr

abbrev pub lec : ℕ → ℕ
lec escr = field 23 16 escr

abbrev pub fec : ℕ → ℕ
fec escr = field 31 24 escr

-- Which bits of each are compared.
abbrev pub fsu : ℕ → ℕ
fsu esur = field 7 0 esur

abbrev pub lsu : ℕ → ℕ
lsu esur = field 15 8 esur

abbrev pub leu : ℕ → ℕ
leu esur = field 23 16 esur

abbrev pub feu : ℕ → ℕ
feu esur = field 31 24 esur
