-- The addresses of a list are those of its first words, and one more.
use Rattle.std.proofs.Common.{◌≡◌, ◌∙◌, ◌<◌, ◌+◌, ℕ, zero, suc, List, [], ◌∷◌, ◌++◌, length, take, ap, sym, subst, refl, arith, rules}
use Rattle.std.specs.Borrow.{Bor}
use Rattle.std.specs.Prelude.{Option, Some, None, IfErr, IfNone, IfOk, Result, Ok, Err, Vec, option_map, slice_get, slice_index_or}
use Rattle.std.specs.declared.alloc.Global.{Global}
use Rattle.std.proofs.Math.Seq.{take-length}
use Rattle.std.proofs.lemmas.List.{length-map}
use Rattle.std.specs.Net.Grammar.{IsSocketText}
use Rattle.std.specs.declared.net.socket_addr.SocketAddr.{SocketAddr}
use Rattle.wf_address.specs.Address.{AreAddresses, IsBadWordAt, IsFirstBad, IsNoAddress, SpellsAt, texts, words_of, IsListFault}
use Rattle.wf_address.specs.declared.list.ListFault.{ListFault}

-- the word of a slice at an index
pub word_at : (words : List (Bor (List ℕ))) (index : ℕ) (word : Bor (List ℕ)) → slice_get words index ≡ Some word → slice_get (texts words) index ≡ Some word.now
word_at [] index word is = let clash : None ≡ Some word = is in cc
word_at (w ∷ words) zero word is = let same : w ≡ word = cc in cc
word_at (w ∷ words) (suc index) word is = word_at words index word is

pub text_at : (words : List (Bor (List ℕ))) (index : ℕ) (other : Bor (List ℕ)) → index < length words → slice_get (texts words) index ≡ Some (slice_index_or words index other).now
text_at [] index other within = absurd (omega (arith, within))
text_at (w ∷ words) zero other within = refl
text_at (w ∷ words) (suc index) other within = text_at words index other (omega (arith, within))

spelled_more : (words : List (List ℕ)) (addresses : List SocketAddr) (index : ℕ) (word : List ℕ) (address : SocketAddr) →
    AreAddresses (take index words) addresses → slice_get words index ≡ Some word → IsSocketText word address →
    AreAddresses (take (suc index) words) (addresses ++ address ∷ [])
unfolding AreAddresses
spelled_more [] addresses index word address are is spells = let clash : None ≡ Some word = is in cc
spelled_more (w ∷ words) [] zero word address are is spells = (subst (λ (v : List ℕ). IsSocketText v address) (let same : word ≡ w = cc in same) spells, tt)
spelled_more (w ∷ words) (a ∷ addresses) zero word address are is spells = absurd are
spelled_more (w ∷ words) [] (suc index) word address are is spells = absurd are
spelled_more (w ∷ words) (a ∷ addresses) (suc index) word address are is spells = (are.0, spelled_more words addresses index word address are.1 is spells)

pub one_more : (words : List (List ℕ)) (addresses : List SocketAddr) (index : ℕ) (address : SocketAddr) →
    AreAddresses (take index words) addresses → SpellsAt words index address → AreAddresses (take (index + 1) words) (addresses ++ address ∷ [])
one_more words addresses index address are spells =
    subst (λ (n : ℕ). AreAddresses (take n words) (addresses ++ address ∷ [])) (let next : suc index ≡ index + 1 = omega arith in next)
    (spelled_more words addresses index spells.0 address are spells.1 spells.2)

pub all_taken : (words : List (Bor (List ℕ))) (addresses : List SocketAddr) (count : ℕ) → count ≡ length words → AreAddresses (take count (texts words)) addresses → AreAddresses (texts words) addresses
all_taken words addresses count is are =
    subst (λ (t : List (List ℕ)). AreAddresses t addresses) (take-length (texts words))
    (subst (λ (n : ℕ). AreAddresses (take n (texts words)) addresses) (is ∙ sym (length-map words (λ w. w.now))) are)

pub first_bad : (words : List (List ℕ)) (addresses : List SocketAddr) (index : ℕ) → AreAddresses (take index words) addresses → IsBadWordAt words index → IsFirstBad words index
first_bad words addresses index are bad = record { bad = bad; addresses = addresses; earlier = are }

pub as_many : (words : List (List ℕ)) (addresses : List SocketAddr) → AreAddresses words addresses → length addresses ≡ length words
unfolding AreAddresses
as_many [] [] are = search rules
as_many [] (a ∷ addresses) are = absurd are
as_many (w ∷ words) [] are = absurd are
as_many (w ∷ words) (a ∷ addresses) are = let rest = as_many words addresses are.1 in omega (arith, rest)

-- a word that spells no address, at an index or as an option's value
pub bad_if_none : (found : Option SocketAddr) (words : List (List ℕ)) (index : ℕ) (text : List ℕ) → slice_get words index ≡ Some text →
    IfNone found (IsNoAddress text) → IfNone found (IsBadWordAt words index)
bad_if_none None words index text is bad = (text, is, bad)
bad_if_none (Some address) words index text is bad = tt

pub no_address : (word : Bor (List ℕ)) → IsNoAddress word.now → (text : List ℕ) × (option_map (λ w. w.now) (Some word) ≡ Some text) × IsNoAddress text
no_address word bad = (word.now, refl, bad)

-- before the first word
pub none_yet : (addresses : List SocketAddr) → addresses ≡ [] → AreAddresses [] addresses
unfolding AreAddresses
none_yet [] is = tt
none_yet (a ∷ addresses) is = let clash : a ∷ addresses ≡ [] = is in cc

-- from the slices of a list's words to the list
module _ (list : List ℕ) (words : List (Bor (List ℕ))) (same : texts words ≡ words_of list) where
  pub count_of_list : (count : ℕ) → count ≡ length words → count ≡ length (words_of list)
  count_of_list count is = is ∙ sym (length-map words (λ w. w.now)) ∙ ap (λ (t : List (List ℕ)). length t) same

  pub found_of_list : (result : Result (Vec SocketAddr Global) ListFault) → IfOk result (λ found. AreAddresses (texts words) found.items) → IfOk result (λ found. AreAddresses (words_of list) found.items)
  found_of_list (Ok found) are = subst (λ (t : List (List ℕ)). AreAddresses t found.items) same are
  found_of_list (Err fault) are = tt

  pub fault_of_list : (result : Result (Vec SocketAddr Global) ListFault) → IfErr result (IsListFault (texts words)) → IfErr result (IsListFault (words_of list))
  fault_of_list (Ok found) is = tt
  fault_of_list (Err fault) is = subst (λ (t : List (List ℕ)). IsListFault t fault) same is
