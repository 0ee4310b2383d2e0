-- Lines of a text, one a node. `line x rest` is the line of x, and what follows it.
use Rattle.std.specs.Prelude.{◌≡◌, ◌≢◌, ℕ, List, [], ◌∷◌, length, Result, Ok, Err}

-- the lines of these, in their order
unfoldable pub lines_of : {A : Type 0} → (A → List ℕ → List ℕ) → List A → List ℕ
lines_of line [] = []
lines_of line (x ∷ xs) = line x (lines_of line xs)

-- each of them is one
unfoldable pub AreAll : {A : Type 0} → (A → Type 0) → List A → Type 0
AreAll Is [] = Unit {0}
AreAll Is (x ∷ xs) = Is x × AreAll Is xs

-- what is read of bytes as so many lines, if they are that
abbrev pub ReadsLines : {A E : Type 0} → (A → Type 0) → (A → List ℕ → List ℕ) → List ℕ → ℕ → List A → Result Unit E → Type 0
ReadsLines Is line bytes count xs (Ok done) = (length xs ≡ count) × AreAll Is xs × (bytes ≡ lines_of line xs)
ReadsLines {A} Is line bytes count xs (Err fault) = (others : List A) → length others ≡ count → AreAll Is others → bytes ≢ lines_of line others
