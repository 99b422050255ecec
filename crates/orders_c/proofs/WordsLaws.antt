-- The laws of the words: their proofs.
use Prim.Native.Nat.{ℕ}
use mathlib.Core.Path.{◌≡◌, refl, ap, ◌∙◌}
use mathlib.Core.Bool.{Bool, true, false}
use Rattle.csv_walking.specs.declared.Cursor.{Cursor}
use Rattle.csv_grammar.specs.Faults.{number_of}
use Rattle.csv_grammar.proofs.GrammarLaws.{grammar_laws}
use Rattle.csv_walking.proofs.WalkingLaws.{walking_laws}
use Rattle.orders_c.specs.Words.{answer_words, span_words, cursor_in, cursor_words}
use Rattle.orders_c.specs.WordsLaws.{WordsLaws}

kept : (at : ℕ) (inside : Bool) → ◌≡◌ {A = Cursor} (cursor_in (cursor_words (record { at = at; inside = inside }))) (record { at = at; inside = inside })
kept at true = refl
kept at false = refl

pub words_laws : WordsLaws
words_laws =
    record {
      read_to = λ t number words h a r. let e = grammar_laws.one_answer t h.0 a h.1 r in (h.2 ∙ ap number_of e, h.3 ∙ ap answer_words e);
      part_to = λ t row column words h s p. h.2 ∙ ap span_words (walking_laws.one_part t row column h.0 s h.1 p);
      starts = refl;
      goes_on = λ w. kept w.at w.inside;
      counts_words = refl;
      refused_words = refl;
      part_words = refl;
      bytes_words = refl;
      refused_content_words = refl;
      row_ended_words = refl;
      field_words = λ held. (refl, refl, refl);
      end_words = λ held. (refl, refl, refl);
    }
