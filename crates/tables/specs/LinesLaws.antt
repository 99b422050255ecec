-- What is proved of the tables program's lines: proofs/LinesLaws.antt has `lines_laws : LinesLaws`.
use Rattle.std.specs.Prelude.{◌≡◌}
use Rattle.text.specs.Text.{ascii}
use Rattle.tables.specs.Lines.{three_lines}

pub record LinesLaws : Type 0 where
  -- "writes exactly these three lines"
  pub as_printed : three_lines ≡ ascii "mula 01 D73F04125E000004\nmuli 01 47FCC6018A990000\nT 0000000000000000 14E6CC3F14E6CC3F\n"
