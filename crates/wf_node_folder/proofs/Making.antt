-- The calls of `init`, one after the other.
use Rattle.std.proofs.Common.{◌≡◌, ◌⊎◌, ◌∙◌, ℕ, true, List, [], ◌∷◌, ap, inl, inr, refl, subst, sym}
use Rattle.std.specs.Borrow.{Bor}
use Rattle.std.specs.Path.{path_file_name}
use Rattle.std.specs.Prelude.{Option, Some, None, Result, Ok, Err, OnErr, OnOk, IfErr, IsSome, MatchOption}
use Rattle.wf_folder.specs.NodeFile.{node_text}
use Rattle.wf_folder.specs.declared.node_admission.NotEmpty.{NotEmpty}
use Rattle.wf_folder.specs.declared.node_file.NodeFile.{NodeFile}
use Rattle.wf_line.specs.declared.node_line.InitLine.{InitLine}
use Rattle.wf_node_folder.specs.Fault.{IsFromSystem}
use Rattle.wf_node_folder.specs.From.{MayBeFrom}
use Rattle.wf_node_folder.specs.Made.{IsFirstJoinsTried, IsFolderMade, IsFirstFile, IsFirstTape, IsHalfFilled, IsInitCause, IsInitDone, IsInitFault, IsUnfilled, IsWhyNotEmpty, first_joining, made_empty, with_joins, with_tape}
use Rattle.wf_rejoin.specs.JoiningText.{joins_text}
use Rattle.wf_node_folder.specs.declared.fault.CommandFault.{CommandFault}
use Rattle.wf_node_folder.specs.declared.fault.CommandFault.TheVariants as faults
use Rattle.wf_store.specs.Call.{Call, OnlyReads, counted, drawn, locked, made, replaced, unreplaced}
use Rattle.wf_store.specs.CallTheorems.{reads_both, reads_none}
use Rattle.wf_store.specs.declared.file_name.FileName.TheVariants.{Farm, Joins, NodeTape}

-- ---- causes

system_cause : (line : InitLine) (fault : CommandFault) → IsFromSystem fault → IsInitCause line fault
system_cause line (faults.Id id nodes) is = absurd is
system_cause line faults.Name is = absurd is
system_cause line faults.ReplaceFrom is = absurd is
system_cause line (faults.FromUnread kind) is = absurd is
system_cause line (faults.FromBad offset) is = absurd is
system_cause line (faults.BesideUnread kind) is = absurd is
system_cause line (faults.JoinsUnread kind) is = absurd is
system_cause line (faults.FromRejected why) is = absurd is
system_cause line fault is = is

fault_of_cause : (line : InitLine) (old new : List Call) (fault : CommandFault) → IsInitCause line fault → IsInitFault line old new fault
fault_of_cause line old new (faults.NotEmpty why) is = absurd is
fault_of_cause line old new fault is = is

fault_of_names : (line : InitLine) (old new : List Call) (fault : CommandFault) → IsWhyNotEmpty old new fault → IsInitFault line old new fault
fault_of_names line old new (faults.NotEmpty why) is = is
fault_of_names line old new (faults.Id id nodes) is = absurd is
fault_of_names line old new faults.Name is = absurd is
fault_of_names line old new faults.ReplaceFrom is = absurd is
fault_of_names line old new (faults.FromUnread kind) is = absurd is
fault_of_names line old new (faults.FromBad offset) is = absurd is
fault_of_names line old new (faults.BesideUnread kind) is = absurd is
fault_of_names line old new (faults.JoinsUnread kind) is = absurd is
fault_of_names line old new (faults.FromRejected why) is = absurd is
fault_of_names line old new fault is = is

-- ---- the folder

-- the command line or the tape of `--from` is bad, and the folder wasn't looked at
pub not_made : (line : InitLine) (calls : List Call) (fault : CommandFault) → IsInitCause line fault → IsInitDone line calls calls (Err fault)
not_made line calls fault is = (fault_of_cause line calls calls fault is, inl (reads_none calls))

-- its names weren't counted
pub not_counted : (old a b new : List Call) → OnlyReads old a → OnlyReads a b → OnlyReads b new → OnlyReads old new
not_counted old a b new first second third = reads_both old b new (reads_both old a b first second) third

-- it has some
pub has_names : (old a b new : List Call) (names : ℕ) (why : NotEmpty) → a ≡ made ∷ old → b ≡ locked ∷ a → new ≡ counted names ∷ b → ¬ (names ≡ 0) → IsWhyNotEmpty old new (faults.NotEmpty why)
has_names old a b new names why first second third some =
    (names, some, third ∙ ap (λ (calls : List Call). counted names ∷ calls) (second ∙ ap (λ (calls : List Call). locked ∷ calls) first))

-- it has none
pub is_empty : (old a b new : List Call) (names : ℕ) → a ≡ made ∷ old → b ≡ locked ∷ a → new ≡ counted names ∷ b → names ≡ 0 → new ≡ made_empty old
is_empty old a b new names first second third none =
    third ∙ ap (λ (n : ℕ). counted n ∷ b) none ∙ ap (λ (calls : List Call). counted 0 ∷ calls) (second ∙ ap (λ (calls : List Call). locked ∷ calls) first)

-- ---- its files

module _ (line : InitLine) (tape : List ℕ) (old a : List Call) (mark : List ℕ) (first : a ≡ drawn mark ∷ old) where
  pub tape_failed : (new : List Call) → new ≡ unreplaced (NodeTape line.id) tape ∷ a → IsUnfilled line tape old new
  tape_failed new is = inr (record { mark = mark; calls = inl (is ∙ ap (λ (calls : List Call). unreplaced (NodeTape line.id) tape ∷ calls) first) })

  after_tape : (b : List Call) → b ≡ replaced (NodeTape line.id) tape ∷ a → b ≡ replaced (NodeTape line.id) tape ∷ drawn mark ∷ old
  after_tape b is = is ∙ ap (λ (calls : List Call). replaced (NodeTape line.id) tape ∷ calls) first

  pub tape_alone : (b new : List Call) → b ≡ replaced (NodeTape line.id) tape ∷ a → (new ≡ b) ⊎ IsFirstJoinsTried line mark b new → IsUnfilled line tape old new
  tape_alone b new second is = inr (record {
    mark = mark;
    calls = elim is [
      | inl same ↦ inr (inl (same ∙ after_tape b second))
      | inr at ↦ inr (inr (inl (at.0, at.1 ∙ ap (λ (calls : List Call). unreplaced Joins (joins_text (first_joining line mark)) ∷ calls) (after_tape b second))))
    ];
  })

  after_joins : (b c : List Call) → b ≡ replaced (NodeTape line.id) tape ∷ a → c ≡ with_joins line mark b → c ≡ with_joins line mark (with_tape line tape mark old)
  after_joins b c second third = third ∙ ap (λ (calls : List Call). with_joins line mark calls) (after_tape b second)

  pub no_farm : (b c new : List Call) (file : NodeFile) → b ≡ replaced (NodeTape line.id) tape ∷ a → c ≡ with_joins line mark b → (new ≡ c) ⊎ (new ≡ unreplaced Farm (node_text file) ∷ c) → file.mark ≡ mark → IsFirstFile line file
      → IsUnfilled line tape old new
  no_farm b c new file second third is same first_file = inr (record {
    mark = mark;
    calls = inr (inr (inr (record {
      file = file;
      is_first = first_file;
      marked = same;
      calls = elim is [
        | inl none ↦ inl (none ∙ after_joins b c second third)
        | inr at ↦ inr (at ∙ ap (λ (calls : List Call). unreplaced Farm (node_text file) ∷ calls) (after_joins b c second third))
      ];
    })));
  })

  pub filled : (b c new : List Call) (file : NodeFile) → b ≡ replaced (NodeTape line.id) tape ∷ a → c ≡ with_joins line mark b → new ≡ replaced Farm (node_text file) ∷ c → file.mark ≡ mark → IsFirstFile line file
      → IsFolderMade line tape old new
  filled b c new file second third last same is = record {
    file = file;
    is_first = is;
    calls = last ∙ ap (λ (calls : List Call). replaced Farm (node_text file) ∷ calls)
        (after_joins b c second third ∙ ap (λ (m : List ℕ). with_joins line m (with_tape line tape m old)) (sym same));
  }

-- ---- all of it

-- a folder that joins begins with an empty tape
empty_tape : (from : Option (Bor (List ℕ))) (tape : List ℕ) (P : Bor (List ℕ) → Type 0) → MatchOption from (tape ≡ []) P → ¬ IsSome from → tape ≡ []
empty_tape None tape P is none = is
empty_tape (Some from) tape P is none = absurd (none refl)

pub joins_empty : (line : InitLine) (tape : List ℕ) → IsFirstTape line tape → ¬ ((line.replaces ≡ true) × IsSome line.from) → line.replaces ≡ true → tape ≡ []
joins_empty line tape begins alone joins = empty_tape line.from tape (λ from. MayBeFrom (path_file_name from.now) line.id line.nodes tape) begins (λ some. alone (joins, some))

-- the folder wasn't made, or has names
pub not_empty : (line : InitLine) (old new : List Call) (fault : CommandFault) → OnlyReads old new → IsWhyNotEmpty old new fault → IsInitDone line old new (Err fault)
not_empty line old new fault reads is = (fault_of_names line old new fault is, inl reads)

-- it has none, and its files were written, or not
pub made_so : (line : InitLine) (tape : List ℕ) (old mid new : List Call) (result : Result (Unit {0}) CommandFault) → IsFirstTape line tape → ¬ ((line.replaces ≡ true) × IsSome line.from) → OnlyReads old mid → mid ≡ made_empty old
    → OnOk result (IsFolderMade line tape mid new) → OnErr result (IsUnfilled line tape mid new) → IfErr result IsFromSystem → IsInitDone line old new result
made_so line tape old mid new (Ok done) begins alone reads is filled left fault =
    record { tape = tape; begins = begins; joins = joins_empty line tape begins alone; filled = subst (λ (calls : List Call). IsFolderMade line tape calls new) is filled }
made_so line tape old mid new (Err why) begins alone reads is filled left fault = (
  fault_of_cause line old new why (system_cause line why fault),
  elim left [
    | inl only ↦ inl (reads_both old mid new reads only)
    | inr half ↦ inr (record { tape = tape; begins = begins; half = subst (λ (calls : List Call). IsHalfFilled line tape calls new) is half })
  ],
)
