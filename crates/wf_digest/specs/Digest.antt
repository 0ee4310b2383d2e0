-- The running digest of a history.
use Rattle.std.specs.Prelude.{◌≡◌, ◌≢◌, ℕ, ◌≤◌, ◌⊎◌, List, [], ◌∷◌, ◌++◌, length, take, replicate}
use Rattle.sha2.specs.Sha256.{sha256}
use Rattle.std.specs.List.{All}
use Rattle.wf_def.specs.Definition.{Definition}
use Rattle.wf_def.specs.Limits.{IsWithinLimits}
use Rattle.wf_canon.specs.Canon.{canon}

-- the digest at sequence 0
abbrev pub first_digest : List ℕ
first_digest = replicate 32 0

-- the digest after a definition, by the one before it
unfoldable pub next_digest : List ℕ → Definition → List ℕ
next_digest digest definition = sha256 (digest ++ canon definition)

-- the digest after these definitions
unfoldable pub digest_after : List ℕ → List Definition → List ℕ
digest_after digest [] = digest
digest_after digest (definition ∷ rest) = digest_after (next_digest digest definition) rest

-- the digest of a history at a sequence
abbrev pub digest_at : List Definition → ℕ → List ℕ
digest_at history seq = digest_after first_digest (take seq history)

-- the digests at all its sequences, from 0 on
unfoldable pub digests_after : List ℕ → List Definition → List (List ℕ)
digests_after digest [] = digest ∷ []
digests_after digest (definition ∷ rest) = digest ∷ digests_after (next_digest digest definition) rest

abbrev pub AreDigestsOf : List Definition → List (List ℕ) → Type 0
AreDigestsOf history digests = digests ≡ digests_after first_digest history

-- ---- what equal digests mean

-- two different texts have one SHA-256
pub record IsCollision (first second : List ℕ) : Type 0 where
  pub differ : first ≢ second
  pub same : sha256 first ≡ sha256 second

-- histories that are equal up to a sequence have equal digests there
abbrev pub EqualHistoriesHaveEqualDigests : Type 0
EqualHistoriesHaveEqualDigests = (a b : List Definition) (seq : ℕ) → take seq a ≡ take seq b → digest_at a seq ≡ digest_at b seq

-- Histories with equal digests at a sequence that both have are equal up to it, unless two
-- different texts have one SHA-256.
abbrev pub EqualDigestsMeanEqualHistories : Type 0
EqualDigestsMeanEqualHistories = (a b : List Definition) (seq : ℕ) → All IsWithinLimits a → All IsWithinLimits b → seq ≤ length a → seq ≤ length b →
    digest_at a seq ≡ digest_at b seq → (take seq a ≡ take seq b) ⊎ ((first : List ℕ) × (second : List ℕ) × IsCollision first second)
