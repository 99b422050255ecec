-- The grammar of RFC 4180, section 2, production for production, over the bytes of a text, which are numbers below 256. A field is a list of the text's
-- own bytes, quotes included; a line goes with its fields, a text with its lines. "header = name *(COMMA name)" and "name = field" make a header a line
-- like any other.
use Rattle.std.specs.Prelude.{ℕ, ◌≤◌, ◌⊎◌, List, [], ◌∷◌, ◌++◌}

-- "TEXTDATA = %x20-21 / %x23-2B / %x2D-7E", and document 02: "Bytes 128 to 255 count as ordinary text."
abbrev pub TextData : ℕ → Type 0
TextData b = ((32 ≤ b) × (b ≤ 33)) ⊎ (((35 ≤ b) × (b ≤ 43)) ⊎ (((45 ≤ b) × (b ≤ 126)) ⊎ (128 ≤ b)))

-- "non-escaped = *TEXTDATA"
pub data NonEscaped : List ℕ → Type 0 where
  none : NonEscaped []
  textdata : {b : ℕ} {s : List ℕ} → TextData b → NonEscaped s → NonEscaped (b ∷ s)

-- what stands between the quotes: "*(TEXTDATA / COMMA / CR / LF / 2DQUOTE)"
pub data InQuotes : List ℕ → Type 0 where
  none : InQuotes []
  textdata : {b : ℕ} {s : List ℕ} → TextData b → InQuotes s → InQuotes (b ∷ s)
  comma : {s : List ℕ} → InQuotes s → InQuotes (44 ∷ s)
  cr : {s : List ℕ} → InQuotes s → InQuotes (13 ∷ s)
  lf : {s : List ℕ} → InQuotes s → InQuotes (10 ∷ s)
  two_quotes : {s : List ℕ} → InQuotes s → InQuotes (34 ∷ (34 ∷ s))

-- "field = (escaped / non-escaped)", "escaped = DQUOTE *(TEXTDATA / COMMA / CR / LF / 2DQUOTE) DQUOTE"
pub data Field : List ℕ → Type 0 where
  non_escaped : {s : List ℕ} → NonEscaped s → Field s
  escaped : {s : List ℕ} → InQuotes s → Field (34 ∷ (s ++ (34 ∷ [])))

-- "record = field *(COMMA field)"
pub data Line : List ℕ → List (List ℕ) → Type 0 where
  one : {f : List ℕ} → Field f → Line f (f ∷ [])
  more : {f s : List ℕ} {fs : List (List ℕ)} → Field f → Line s fs → Line (f ++ (44 ∷ s)) (f ∷ fs)

-- "file = [header CRLF] record *(CRLF record) [CRLF]": lines that end in CRLF, and a last one without; where the text ends in CRLF, the last one
-- has no bytes
pub data Text : List ℕ → List (List (List ℕ)) → List (List ℕ) → Type 0 where
  last : {s : List ℕ} {l : List (List ℕ)} → Line s l → Text s [] l
  next : {s t : List ℕ} {fs l : List (List ℕ)} {ls : List (List (List ℕ))} → Line s fs → Text t ls l → Text (s ++ (13 ∷ (10 ∷ t))) (fs ∷ ls) l

-- t is a text of the grammar
abbrev pub IsText : List ℕ → Type 0
IsText t = (ls : List (List (List ℕ))) × (l : List (List ℕ)) × Text t ls l

-- some continuation of t is a text of the grammar
abbrev pub Begins : List ℕ → Type 0
Begins t = (u : List ℕ) × IsText (t ++ u)
