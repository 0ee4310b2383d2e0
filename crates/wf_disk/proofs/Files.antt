-- Files in memory.
use Rattle.std.proofs.Common.{◌≡◌, ◌⊎◌, ℕ, ◌+◌, ◌-◌, ◌<◌, ◌≤◌, zero, suc, true, false, List, [], ◌∷◌, ◌++◌, length, reverse, take, drop, slice_index_or, Option, Some, None, refl, sym, ap, ◌∙◌, inl, inr, arith}
use Rattle.std.proofs.Math.Seq.{take-add}
use Rattle.std.proofs.lemmas.List.{reverse-append, take_all, drop_all}
use Rattle.std.proofs.lemmas.Bool.{cases_lt}
use Rattle.std.proofs.lemmas.Grind.{common_steps}
use Rattle.std.specs.Prelude.{is_some, min}
use Rattle.wf_disk.specs.Folder.{File, Folder, empty_file, whole}
use Rattle.wf_disk.specs.Call.{opened_over}

-- No bytes are so long that a sum at its highest cuts them.
pub cut_at : (bytes : List ℕ) (n many : ℕ) → many ≡ min n 18446744073709551615 → length bytes ≤ 18446744073709551615 → take many bytes ≡ take n bytes
cut_at bytes n many is fits = elim (cases_lt n 18446744073709551615) [
  | inl less ↦ ap (λ (k : ℕ). take k bytes) (omega (arith, is, less))
  | inr more ↦ take_all many bytes (omega (arith, is, more, fits)) ∙ sym (take_all n bytes (omega (arith, more, fits)))
]

-- A file that is cut short has the synced bytes and a prefix of the rest.
pub cut_short : (bytes left : List ℕ) (synced keep all : ℕ) → left ≡ take (synced + keep) bytes → all ≡ length left → record { synced = take all left; rest = drop all left; doubtful = false } ≡ whole (take synced bytes ++ take keep (drop synced bytes))
cut_short bytes left synced keep all is all_is =
    let within : length left ≤ all = omega (arith, all_is) in
    let both : take all left ≡ take synced bytes ++ take keep (drop synced bytes) = take_all all left within ∙ is ∙ take-add synced keep bytes in
    let none : drop all left ≡ [] = drop_all all left within in
    ap (λ (t : List ℕ). record { synced = t; rest = drop all left; doubtful = false }) both ∙ ap (λ (t : List ℕ). record { synced = take synced bytes ++ take keep (drop synced bytes); rest = t; doubtful = false }) none

-- ---- the file that a power cut puts back

pub put_back : (own file : Option File) (others : List (Option File)) (back : ℕ) → 0 < back → back ≤ length others → file ≡ slice_index_or others (back - 1) file → file ≡ slice_index_or (own ∷ others) back own
put_back own file others zero some within is = absurd (omega (arith, some))
put_back own file others (suc n) some within is = grind (arith, common_steps, is, within)

pub stays_back : (own : Option File) (others : List (Option File)) (back : ℕ) → (back ≡ 0) ⊎ (length others < back) → own ≡ slice_index_or (own ∷ others) back own
stays_back own others zero past = refl
stays_back own others (suc n) past = elim past [
  | inl none ↦ absurd (omega (arith, none))
  | inr less ↦ grind (arith, common_steps, less)
]

-- ---- opening

pub opened_there : (own : Option File) (folder : Folder) → is_some own ≡ true → opened_over own folder ≡ folder
unfolding opened_over
opened_there None folder there = absurd cc
opened_there (Some file) folder there = refl

-- A file that was absent is made, and its absence is noted.
pub opened_new : (own second : Option File) (file : File) (notes kept noted : List (Option File)) → is_some own ≡ false → file ≡ empty_file → kept ≡ notes → noted ≡ kept ++ None ∷ [] →
    record { own = Some file; second = second; earlier = reverse noted } ≡ opened_over own (record { own = own; second = second; earlier = reverse notes })
unfolding opened_over
opened_new None second file notes kept noted absent empty same longer =
    let all : reverse noted ≡ None ∷ reverse notes = ap reverse (longer ∙ ap (λ (files : List (Option File)). files ++ None ∷ []) same) ∙ reverse-append notes (None ∷ []) in
    ap (λ (f : File). record { own = Some f; second = second; earlier = reverse noted }) empty ∙ ap (λ (files : List (Option File)). record { own = Some empty_file; second = second; earlier = files }) all
opened_new (Some there) second file notes kept noted absent empty same longer = absurd cc
