-- Document 01, "Positions, windows, moves", its last paragraph, with document 02, item 3: checking a stored state against an IV.
use Rattle.std.specs.Prelude.{Bool, true, false, not, ◌&&◌, List, [], ◌∷◌, ◌++◌, ℕ, ◌/◌, eqb, length}
use Rattle.generator.specs.declared.State.{State}
use Rattle.generator.specs.Registers.{Registers, registers_of}
use Rattle.loading.specs.Loading.{load}
use Rattle.loading.specs.Recovery.{loaded_from, recovered_key}
use Rattle.refusals.specs.Numbers.{refused_no_key_leads}
use Rattle.refusals.specs.Tests.{Test, written}
use Rattle.refusals.specs.Lines.{Line}
use Rattle.answers.specs.declared.numbered.Answer.{Answer}
use Rattle.answers.specs.Tests.{iv_length_test, key_target_test, state_tests, answer_of}
use Rattle.answers.specs.Lines.{iv_length_line, key_target_line, state_lines}
use Rattle.opening.specs.Opening.{opening_accepts, Leads}

-- "The check walks back floor(p/8) + 1 ordinary steps and 32 of initialisation": to the registers that were loaded, if any key leads here
unfoldable pub loaded_of : State → Registers
loaded_of s = loaded_from (s.position / 8) (registers_of s)

-- the key of the state's size that those registers give with that IV
unfoldable pub key_of : State → (iv : List ℕ) → List ℕ
key_of s iv = recovered_key (s.size / 8) iv (loaded_of s).cells

-- as many words, and each the same
abbrev pub same_words : (xs ys : List ℕ) → Bool
same_words [] [] = true
same_words [] (y ∷ ys) = false
same_words (x ∷ xs) [] = false
same_words (x ∷ xs) (y ∷ ys) = eqb x y && same_words xs ys

-- document 01 of registers: "they are equal when all eighteen words are, and otherwise differ."
unfoldable pub same_registers : (a b : Registers) → Bool
same_registers a b = eqb a.r1 b.r1 && (eqb a.r2 b.r2 && same_words a.cells b.cells)

-- "then compares with the loading": whether that key, loaded again, gives these registers
abbrev pub loads_again : State → (iv : List ℕ) → Bool
loads_again s iv = same_registers (load (key_of s iv) iv) (loaded_of s)

-- document 02, item 3: "The check looks for a key that opening accepts": and opening, by its own tests, accepts that key
abbrev pub key_leads : State → (iv : List ℕ) → Bool
key_leads s iv = loads_again s iv && opening_accepts (key_of s iv) iv

-- | 10 | no key of that size with that IV leads to this state |: the test, and the line of the table
abbrev pub no_key_leads_test : State → (iv : List ℕ) → Test
no_key_leads_test s iv = record { number = refused_no_key_leads; applies = not (key_leads s iv) }

abbrev pub no_key_leads_line : State → (iv : List ℕ) → Line
no_key_leads_line s iv = record { number = refused_no_key_leads; When = (key : List ℕ) → Leads key iv s → ⊥ }

-- 2, 3, 4 and 9, which ask nothing of the registers, for a key target of len bytes
abbrev pub tests_before10 : State → (iv : List ℕ) (len : ℕ) → List Test
tests_before10 s iv len = iv_length_test iv ∷ (state_tests s ++ (key_target_test s len ∷ []))

abbrev pub lines_before10 : State → (iv : List ℕ) (len : ℕ) → List Line
lines_before10 s iv len = iv_length_line iv ∷ (state_lines s ++ (key_target_line s len ∷ []))

-- "checking 2, 3, 4, 9, 10"
abbrev pub checking_tests : State → (iv : List ℕ) (len : ℕ) → List Test
checking_tests s iv len = tests_before10 s iv len ++ (no_key_leads_test s iv ∷ [])

abbrev pub checking_lines : State → (iv : List ℕ) (len : ℕ) → List Line
checking_lines s iv len = lines_before10 s iv len ++ (no_key_leads_line s iv ∷ [])

-- "gives the state back unaltered", and so does a refusal: the answer
abbrev pub checked : State → (iv target : List ℕ) → Answer
checked s iv target = answer_of (checking_tests s iv (length target)) s s

-- "Acceptance writes the key into the key target": the target
abbrev pub checked_target : State → (iv target : List ℕ) → List ℕ
checked_target s iv target = written (checking_tests s iv (length target)) (key_of s iv) target
