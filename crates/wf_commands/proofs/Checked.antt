-- From the check of bytes to the outcome of a run of `check`.
use Rattle.std.proofs.Common.{◌≡◌, ◌∙◌, inl, inr, ℕ, List, true, false, ap, sym, subst, refl, arith}
use Rattle.std.specs.Io.KnownBytes.{Appends}
use Rattle.std.specs.Prelude.{Option, Some, None, Result, Ok, Err, IfSome}
use Rattle.wf_block.specs.declared.fault.MapFault.TheVariants as maps
use Rattle.wf_check.specs.Finding.{IsFinding, IsPublishable, IsReportOf, IsWhy}
use Rattle.wf_check.specs.declared.fault.CheckFault.{CheckFault}
use Rattle.wf_check.specs.declared.fault.CheckFault.TheVariants as found
use Rattle.wf_check.specs.declared.finding.Finding.{Finding}
use Rattle.wf_line.specs.declared.command_line.Format.{Format}
use Rattle.wf_mapfile.specs.Meaning.{meaning}
use Rattle.wf_stream.specs.KnownTheorems.{keeps_same}
use Rattle.wf_commands.proofs.Examined.{cut_meaning}
use Rattle.wf_commands.specs.FailureCount.{CountsReads, CountsWrites}
use Rattle.wf_commands.specs.Run.{HasReport, HasReportIn, IsCheckOf, IsChecked, IsFindingWritten, IsInputFault, IsReportIn, IsOutputWriting, checked, fault_of, most_checked_bytes}
use Rattle.wf_commands.specs.declared.fault.RunFault.{RunFault}
use Rattle.wf_commands.specs.declared.fault.RunFault.TheVariants as faults

abbrev failed : RunFault → Result (Unit {0}) RunFault
failed fault = Err fault

-- ---- what is written of a finding

pub written_whole : (format : Format) (finding : Finding) (text bytes : List ℕ) (old new : Option (List ℕ)) (fault : RunFault) → bytes ≡ text → fault ≡ fault_of finding.fault
    → IsReportIn format finding text → Appends old new bytes → IsFindingWritten format finding old new (failed fault)
written_whole format finding text bytes old new fault same is report appends =
    inl (text, report, inl (ap failed is, subst (λ b. Appends old new b) same appends))

part_by : (format : Format) (finding : Finding) (text : List ℕ) (old new : Option (List ℕ)) (fault : RunFault) → IsReportIn format finding text
    → IsOutputWriting text (λ _. ⊥) old new (failed fault) → IsFindingWritten format finding old new (failed fault)
part_by format finding text old new faults.Write report part = inl (text, report, inr (refl, part))
part_by format finding text old new (faults.Map fault) report none = inr (fault, refl, none.0, none.1)
part_by format finding text old new (faults.Canon fault) report none = absurd none.0
part_by format finding text old new (faults.Script fault) report none = absurd none
part_by format finding text old new (faults.Tape fault) report none = absurd none
part_by format finding text old new faults.Read report none = absurd none
part_by format finding text old new faults.Serve report none = absurd none
part_by format finding text old new faults.Wire report none = absurd none

pub written_in_part : (format : Format) (finding : Finding) (text bytes : List ℕ) (old new : Option (List ℕ)) (fault : RunFault) → bytes ≡ text → IsReportIn format finding text
    → IsOutputWriting bytes (λ _. ⊥) old new (failed fault) → IsFindingWritten format finding old new (failed fault)
written_in_part format finding text bytes old new fault same report part =
    part_by format finding text old new fault report (subst (λ b. IsOutputWriting b (λ _. ⊥) old new (failed fault)) same part)

pub unwritten : (format : Format) (finding : Finding) (old : Option (List ℕ)) → IsFindingWritten format finding old old (failed (faults.Map maps.Memory))
unwritten format finding old = inr (maps.Memory, refl, refl, keeps_same old)

-- the error of a finding is that of no failed write
found_writes_by : (fault : CheckFault) (before after : ℕ) → after ≡ before → CountsWrites {T = Unit {0}} (Err (fault_of fault)) before after
found_writes_by (found.Map fault) before after same = same
found_writes_by found.TooBig before after same = same

pub found_writes : (error : CheckFault) (fault : RunFault) (before after : ℕ) → fault ≡ fault_of error → after ≡ before
    → CountsWrites {T = Unit {0}} (Err fault) before after
found_writes error fault before after is same =
    subst (λ f. CountsWrites {T = Unit {0}} (Err f) before after) (sym is) (found_writes_by error before after same)

-- ---- the check of bytes

whole_by : (format : Format) (bytes text : List ℕ) (finding : Finding) (fault : CheckFault) (old new : Option (List ℕ)) → finding.fault ≡ fault → IsFinding bytes finding
    → IsReportIn format finding text → Appends old new text → IsCheckOf format bytes old new (failed (fault_of fault))
whole_by format bytes text finding (found.Map fault) old new is finds report appends =
    let why : IsWhy bytes (found.Map fault) = subst (λ f. IsWhy bytes f) is finds.why in (
      λ memory. let clash : true ≡ false = sym memory ∙ why.0 in cc,
      λ other. (text, (finding, finds, is, report), appends),
    )
whole_by format bytes text finding found.TooBig old new is finds report appends = (refl, (text, (finding, finds, is, report), appends))

pub found_checked : (format : Format) (bytes : List ℕ) (finding : Finding) (old new : Option (List ℕ)) (result : Result (Unit {0}) RunFault) → IsFinding bytes finding
    → IsFindingWritten format finding old new result → IsCheckOf format bytes old new result
found_checked format bytes finding old new result finds (inl (text, report, inl (is, appends))) =
    subst (λ r. IsCheckOf format bytes old new r) (sym is) (whole_by format bytes text finding finding.fault old new refl finds report appends)
found_checked format bytes finding old new result finds (inl (text, report, inr (is, part))) =
    subst (λ r. IsCheckOf format bytes old new r) (sym is) (finding.fault, (text, (finding, finds, refl, report), part))
found_checked format bytes finding old new result finds (inr (fault, is, memory, keeps)) =
    subst (λ r. IsCheckOf format bytes old new r) (sym is) (λ other. keeps, λ other. let clash : true ≡ false = sym memory ∙ other in cc)

pub fine_checked : (format : Format) (bytes : List ℕ) (old : Option (List ℕ)) (done : Unit {0}) → IsPublishable bytes → IsCheckOf format bytes old old (Ok done)
fine_checked format bytes old done publishable = (publishable, keeps_same old)

pub unchecked : (format : Format) (bytes : List ℕ) (old : Option (List ℕ)) → IsCheckOf format bytes old old (failed (faults.Map maps.Memory))
unchecked format bytes old = (λ other. keeps_same old, λ other. let clash : true ≡ false = other in cc)

-- ---- the check of an input

report_known : (format : Format) (input : Option (List ℕ)) (bytes : List ℕ) (fault : CheckFault) (P : List ℕ → Type 0) → IfSome input (λ known. bytes ≡ checked known)
    → HasReport format bytes fault P → HasReportIn format input fault P
report_known format None bytes fault P is (text, report, holds) = (text, tt, holds)
report_known format (Some known) bytes fault P is (text, report, holds) = (text, subst (λ b. IsReportOf (IsReportIn format) b fault text) is report, holds)

-- a map that is read in part is read whole
publishable_known : (input : Option (List ℕ)) (bytes : List ℕ) → IfSome input (λ known. bytes ≡ checked known) → IsPublishable bytes → IfSome input IsPublishable
publishable_known None bytes is publishable = tt
publishable_known (Some known) bytes is (d, means, short) =
    (d, sym (cut_meaning most_checked_bytes known (omega arith)) ∙ ap meaning (sym is) ∙ means, short)

known_by : (format : Format) (input : Option (List ℕ)) (bytes : List ℕ) (old new : Option (List ℕ)) (result : Result (Unit {0}) RunFault)
    → IfSome input (λ known. bytes ≡ checked known) → IsCheckOf format bytes old new result → IsChecked format input old new result
known_by format input bytes old new (Ok done) is check = (publishable_known input bytes is check.0, check.1)
known_by format input bytes old new (Err (faults.Map fault)) is check = (check.0, λ other. report_known format input bytes (found.Map fault) _ is (check.1 other))
known_by format input bytes old new (Err (faults.Canon fault)) is check = (check.0, report_known format input bytes found.TooBig _ is check.1)
known_by format input bytes old new (Err faults.Write) is check = (check.0, report_known format input bytes check.0 _ is check.1)
known_by format input bytes old new (Err faults.Read) is check = absurd check
known_by format input bytes old new (Err (faults.Script fault)) is check = absurd check
known_by format input bytes old new (Err (faults.Tape fault)) is check = absurd check
known_by format input bytes old new (Err faults.Serve) is check = absurd check
known_by format input bytes old new (Err faults.Wire) is check = absurd check

pub check_known : (format : Format) (input : Option (List ℕ)) (bytes read : List ℕ) (old new : Option (List ℕ)) (result : Result (Unit {0}) RunFault) → read ≡ bytes
    → IfSome input (λ known. bytes ≡ checked known) → IsCheckOf format read old new result → IsChecked format input old new result
check_known format input bytes read old new result same is check =
    known_by format input bytes old new result is (subst (λ b. IsCheckOf format b old new result) same check)

-- after the input was read no read fails
pub check_reads : (format : Format) (bytes : List ℕ) (old new : Option (List ℕ)) (result : Result (Unit {0}) RunFault) (before after : ℕ)
    → IsCheckOf format bytes old new result → after ≡ before → CountsReads result before after
check_reads format bytes old new (Ok done) before after check same = same
check_reads format bytes old new (Err (faults.Map fault)) before after check same = λ other. same
check_reads format bytes old new (Err (faults.Canon fault)) before after check same = same
check_reads format bytes old new (Err faults.Write) before after check same = same
check_reads format bytes old new (Err faults.Read) before after check same = absurd check
check_reads format bytes old new (Err (faults.Script fault)) before after check same = absurd check
check_reads format bytes old new (Err (faults.Tape fault)) before after check same = absurd check
check_reads format bytes old new (Err faults.Serve) before after check same = absurd check
check_reads format bytes old new (Err faults.Wire) before after check same = absurd check

-- of an input that can't be read
pub unread : (format : Format) (input old : Option (List ℕ)) (fault : RunFault) → IsInputFault fault → IsChecked format input old old (failed fault)
unread format input old (faults.Map fault) why = (λ other. keeps_same old, λ other. let clash : true ≡ false = sym why ∙ other in cc)
unread format input old faults.Read why = keeps_same old
unread format input old (faults.Canon fault) why = absurd why
unread format input old (faults.Script fault) why = absurd why
unread format input old (faults.Tape fault) why = absurd why
unread format input old faults.Write why = absurd why
unread format input old faults.Serve why = absurd why
unread format input old faults.Wire why = absurd why

pub unread_writes : (fault : RunFault) (count : ℕ) → IsInputFault fault → CountsWrites {T = Unit {0}} (Err fault) count count
unread_writes (faults.Map fault) count why = refl
unread_writes faults.Read count why = refl
unread_writes (faults.Canon fault) count why = absurd why
unread_writes (faults.Script fault) count why = absurd why
unread_writes (faults.Tape fault) count why = absurd why
unread_writes faults.Write count why = absurd why
unread_writes faults.Serve count why = absurd why
unread_writes faults.Wire count why = absurd why
