-- Document 02, item 1: the rows of a text, which are its lines but for those that are skipped.
use Rattle.std.specs.Prelude.{ℕ, ◌≤◌, ◌≡◌, Bool, true, false, cond, List, [], ◌∷◌, ◌++◌, length, get_or}

-- "a line of no bytes": its one field has none
abbrev pub is_blank : (line : List (List ℕ)) → Bool
is_blank [] = false
is_blank ([] ∷ []) = true
is_blank ([] ∷ (f ∷ fs)) = false
is_blank ((b ∷ f) ∷ fs) = false

-- whether a line that ends in CRLF is skipped, after these rows: "a line of no bytes, up to its CR or the text's end, is skipped"
abbrev pub skips : (rows : List (List (List ℕ))) (line : List (List ℕ)) → Bool
skips rows line = is_blank line

-- the rows with such a line after them
abbrev pub add_line : (rows : List (List (List ℕ))) (line : List (List ℕ)) → List (List (List ℕ))
add_line rows line = cond (skips rows line) rows (rows ++ (line ∷ []))

abbrev pub add_lines : (rows lines : List (List (List ℕ))) → List (List (List ℕ))
add_lines rows [] = rows
add_lines rows (line ∷ lines) = add_lines (add_line rows line) lines

-- the rows among lines that end in CRLF
abbrev pub rows_of : (lines : List (List (List ℕ))) → List (List (List ℕ))
rows_of lines = add_lines [] lines

-- the rows of a text of these lines and this last line: "The final line end may be missing."
abbrev pub table_of : (lines : List (List (List ℕ))) (last : List (List ℕ)) → List (List (List ℕ))
table_of lines last = cond (is_blank last) (rows_of lines) (rows_of lines ++ (last ∷ []))

-- "a text without rows has 0 columns", else the first row's field count
abbrev pub columns_of : (rows : List (List (List ℕ))) → ℕ
columns_of [] = 0
columns_of (row ∷ rows) = length row

-- "by row and column from 0 (an empty part where there is none or the text is refused)": where there is none
abbrev pub entry : (rows : List (List (List ℕ))) (row column : ℕ) → List ℕ
entry rows row column = get_or (get_or rows row []) column []

-- these lines without those of no bytes
abbrev pub with_bytes : (lines : List (List (List ℕ))) → List (List (List ℕ))
with_bytes [] = []
with_bytes (line ∷ lines) = cond (is_blank line) (with_bytes lines) (line ∷ with_bytes lines)

-- each of these rows has n fields
abbrev pub HaveFields : (n : ℕ) (rows : List (List (List ℕ))) → Type 0
HaveFields n [] = Unit
HaveFields n (row ∷ rows) = (length row ≡ n) × HaveFields n rows

-- every row has as many fields as the first, and at most 32
abbrev pub Even : (rows : List (List (List ℕ))) → Type 0
Even rows = HaveFields (columns_of rows) rows × (columns_of rows ≤ 32)
