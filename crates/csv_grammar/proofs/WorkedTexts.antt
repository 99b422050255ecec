-- Texts and their answers in numerals: by computation of the automaton.
use mathlib.Core.Path.{◌≡◌, refl, subst}
use mathlib.Core.Logic.{inl, inr}
use mathlib.Core.List.{List, [], ◌∷◌, ◌++◌, cons-ne-nil}
use native.Mathlib.Omega.{arith}
use Rattle.csv_grammar.specs.Grammar as G
use Rattle.csv_grammar.specs.Faults.{NotCsvAt, RaggedAt, Reads}
use Rattle.csv_grammar.specs.WorkedTexts.{Row, accepted_rows, refused_rows, AllRead, divided_text, its_lines, its_last, broken_row, WorkedTexts}
use Rattle.csv_grammar.proofs.Automaton.{kind_of, counted, end_of, read_from, read_of}
use Rattle.csv_grammar.proofs.Division.{Ends}
use Rattle.csv_grammar.proofs.Sound.{okay, sound, breaks_off_only}
use Rattle.csv_grammar.proofs.GrammarLaws.{reads}

-- what the automaton answers is what a row says
abbrev AllComputed : List Row → Type 0
AllComputed [] = Unit
AllComputed (r ∷ rows) = (read_of r.text ≡ r.answer) × AllComputed rows

all_read : (rows : List Row) → AllComputed rows → AllRead rows
all_read [] e = tt
all_read (r ∷ rows) e = (subst (Reads r.text) e.0 (reads r.text), all_read rows e.1)

accepted_rows_lem : AllComputed accepted_rows
unfolding read_of read_from kind_of counted end_of
accepted_rows_lem = (refl, (refl, (refl, (refl, (refl, (refl, (refl, (refl, (refl, (refl, (refl, tt)))))))))))

refused_rows_lem : AllComputed refused_rows
unfolding read_of read_from kind_of counted end_of
refused_rows_lem = (refl, (refl, (refl, (refl, (refl, (refl, (refl, (refl, (refl, (refl, (refl, (refl, (refl, (refl, (refl, (refl, (refl, (refl, (refl, (refl, (refl, (refl, tt))))))))))))))))))))))

division : G.Text divided_text its_lines its_last
unfolding kind_of
division = sound (okay divided_text) Ends.fresh

-- the text of two rows that a quote makes of it
closed : G.Text (broken_row ++ (34 ∷ [])) (((97 ∷ []) ∷ []) ∷ []) ((97 ∷ []) ∷ (34 ∷ 34 ∷ []) ∷ [])
unfolding kind_of
closed = sound (okay (broken_row ++ (34 ∷ []))) Ends.closed

shared_place : NotCsvAt broken_row 6 × RaggedAt broken_row 6
shared_place = (
  inr (refl, (34 ∷ [], (_, _, closed)), breaks_off_only broken_row (inl (_, _, closed))),
  (_, _, inr (refl, inr closed), (refl, λ e. cons-ne-nil _ _ e, λ e. omega arith)),
)

pub worked_texts : WorkedTexts
worked_texts = record { shared_place = shared_place; accepted_rows_lem = all_read accepted_rows accepted_rows_lem; refused_rows_lem = all_read refused_rows refused_rows_lem; division = division; places = refl; by_row_and_column = (refl, refl); equal_places = refl; empty_places = refl }
