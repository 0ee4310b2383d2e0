-- A note more is a call more.
use Rattle.std.proofs.Common.{◌≡◌, ◌∙◌, List, [], ◌∷◌, ◌++◌, Vec, Global, ap, false}
use Rattle.std.proofs.lemmas.List.{map-append, reverse-append}
use Rattle.std.specs.Prelude.{ℕ, Option, map, reverse}
use Rattle.wf_store.specs.Call.{Call, IsAfter, OnlyReads, bytes_of, call_of, is_change}
use Rattle.wf_store.specs.CallTheorems.{after_one, reads_one}
use Rattle.wf_store.specs.declared.call_kind.CallKind.{CallKind}

-- the calls of these notes
abbrev calls_of : List (Option (Vec ℕ Global) × CallKind) → List Call
calls_of notes = reverse (map call_of notes)

noted : (notes later : List (Option (Vec ℕ Global) × CallKind)) (bytes : Option (Vec ℕ Global)) (kind : CallKind) → later ≡ notes ++ (bytes, kind) ∷ [] →
    calls_of later ≡ record { kind = kind; bytes = bytes_of bytes } ∷ calls_of notes
noted notes later bytes kind is =
    ap calls_of is ∙ ap (λ (calls : List Call). reverse calls) (map-append call_of notes ((bytes, kind) ∷ [])) ∙ reverse-append (map call_of notes) (call_of (bytes, kind) ∷ [])

pub noted_after : (notes later : List (Option (Vec ℕ Global) × CallKind)) (bytes : Option (Vec ℕ Global)) (kind : CallKind) → later ≡ notes ++ (bytes, kind) ∷ [] →
    IsAfter (reverse (map call_of notes)) (reverse (map call_of later))
noted_after notes later bytes kind is = after_one (record { kind = kind; bytes = bytes_of bytes }) (calls_of notes) (calls_of later) (noted notes later bytes kind is)

pub noted_reads : (notes later : List (Option (Vec ℕ Global) × CallKind)) (bytes : Option (Vec ℕ Global)) (kind : CallKind) → later ≡ notes ++ (bytes, kind) ∷ [] →
    is_change kind ≡ false → OnlyReads (reverse (map call_of notes)) (reverse (map call_of later))
noted_reads notes later bytes kind is reads = reads_one (record { kind = kind; bytes = bytes_of bytes }) (calls_of notes) (calls_of later) (noted notes later bytes kind is) reads
