-- Words that spell addresses.
use Rattle.std.specs.Prelude.{◌≡◌, ◌==◌, ℕ, ⊤, List, [], ◌∷◌, Option, Some, None, map, slice_get, take, ◌<◌, length}
use Rattle.std.specs.Borrow.{Bor}
use Rattle.std.specs.List.{slice_split}
use Rattle.std.specs.Net.Grammar.{IsSocketText}
use Rattle.std.specs.declared.net.socket_addr.SocketAddr.{SocketAddr}
use Rattle.wf_address.specs.declared.list.ListFault.{ListFault}
use Rattle.wf_address.specs.declared.list.ListFault.TheVariants as faults

-- the words of slices
abbrev pub texts : List (Bor (List ℕ)) → List (List ℕ)
texts words = map (λ w. w.now) words

-- the words of a list, between commas
abbrev pub words_of : List ℕ → List (List ℕ)
words_of list = slice_split (λ b. b == 44) list

-- each word spells the address at its place, and there is none without a word
unfoldable pub AreAddresses : List (List ℕ) → List SocketAddr → Type 0
AreAddresses [] [] = ⊤
AreAddresses [] (address ∷ addresses) = ⊥
AreAddresses (word ∷ words) [] = ⊥
AreAddresses (word ∷ words) (address ∷ addresses) = IsSocketText word address × AreAddresses words addresses

-- the word spells none
abbrev pub IsNoAddress : List ℕ → Type 0
IsNoAddress word = (address : SocketAddr) → ¬ (IsSocketText word address)

-- there is a word at this index, and it spells that address; or none
abbrev pub SpellsAt : List (List ℕ) → ℕ → SocketAddr → Type 0
SpellsAt words index address = (word : List ℕ) × (slice_get words index ≡ Some word) × IsSocketText word address

abbrev pub IsBadWordAt : List (List ℕ) → ℕ → Type 0
IsBadWordAt words index = (word : List ℕ) × (slice_get words index ≡ Some word) × IsNoAddress word

-- The word at this index is the first that spells none.
pub record IsFirstBad (words : List (List ℕ)) (index : ℕ) : Type 0 where
  pub bad : IsBadWordAt words index
  pub addresses : List SocketAddr
  pub earlier : AreAddresses (take index words) addresses

-- the address that an option's value spells, if it has one
abbrev pub IsSpelledBy : Option (List ℕ) → Option SocketAddr → Type 0
IsSpelledBy None None = ⊤
IsSpelledBy None (Some address) = ⊥
IsSpelledBy (Some word) None = ⊥
IsSpelledBy (Some word) (Some address) = IsSocketText word address

-- Why the words of a list aren't taken as addresses.
abbrev pub IsListFault : List (List ℕ) → ListFault → Type 0
IsListFault words (faults.Bad index) = IsFirstBad words index
IsListFault words (faults.Count count) = (count ≡ length words) × (64 < count)
IsListFault words faults.Memory = ⊤
