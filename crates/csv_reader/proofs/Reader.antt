-- Document 02, item 1: its proof.
use Prim.Native.Nat.{ℕ}
use mathlib.Core.Path.{◌≡◌, refl, ap, ◌∙◌}
use mathlib.Core.List.{List, [], ◌∷◌}
use Rattle.refusals.proofs.Lines.{none_applies}
use Rattle.csv_grammar.specs.Answers.{Answer, Counts, Refused}
use Rattle.csv_grammar.specs.Faults.{fault_lines, Reads}
use lib.ListN.{length}
use Rattle.csv_grammar.specs.Table.{table_of, columns_of}
use Rattle.csv_grammar.proofs.Automaton.{read_of}
use Rattle.csv_grammar.proofs.GrammarLaws.{grammar_laws, reads}
use Rattle.csv_fields.proofs.FieldsLaws.{fields_laws}
use Rattle.csv_walking.proofs.WalkingLaws.{walking_laws}
use Rattle.csv_contents.proofs.ContentsLaws.{contents_laws}
use Rattle.csv_reader.specs.Reader.{ReadingRefuses, Reader}

counted : (t : List ℕ) (rows columns : ℕ) → Reads t (Counts rows columns) → ReadingRefuses t (Counts rows columns)
counted t rows columns h =
    record {
      order = λ p. refl;
      refuses = λ n. absurd (n refl);
      counts = λ e ls l x. let u = grammar_laws.one_division t h.1 ls h.2 l h.3 x in
          let w : table_of h.1 h.2 ≡ table_of ls l = λ j. table_of (u.0 j) (u.1 j) in
          λ j. (h.4 ∙ ap length w) j ∷ (h.5 ∙ ap columns_of w) j ∷ [];
      accepts = λ n. refl;
      accepts_only = λ e. h.0;
    }

refused : (t : List ℕ) (number place : ℕ) → Reads t (Refused number place) → ReadingRefuses t (Refused number place)
refused t number place h =
    record {
      order = λ p. refl;
      refuses = λ n. (place, refl, h.0, h.1);
      counts = λ e. absurd (h.2 e);
      accepts = λ n. none_applies number (fault_lines t place) h.1 (n place);
      accepts_only = λ e. absurd (h.2 e);
    }

reading : (t : List ℕ) (a : Answer) → Reads t a → ReadingRefuses t a
reading t (Counts rows columns) h = counted t rows columns h
reading t (Refused number place) h = refused t number place h

pub reader : Reader
reader =
    record {
      grammar = grammar_laws;
      fields = fields_laws;
      walking = walking_laws;
      contents = contents_laws;
      reading = reading;
      answers = λ t. (read_of t, reads t);
      parts_accepted = λ t row column f p len. contents_laws.field_accepted f len (walking_laws.part_field t row column f p);
    }
