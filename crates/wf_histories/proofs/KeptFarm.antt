-- The file `farm` that a process reads says no less than what the one before it put there, if a
-- power cut may have left it.
use Rattle.std.proofs.Common.{ℕ, List, [], ◌∷◌, subst, sym}
use Rattle.std.specs.Prelude.{Option}
use Rattle.wf_node_folder.proofs.StartedFarm.{says_found}
use Rattle.wf_node_folder.specs.FarmPut.{published_in}
use Rattle.wf_node_folder.specs.Folder.{IsFoundIn, StaysFrom}
use Rattle.wf_node_folder.specs.PowerCut.{CutsKeepFarm, CutsSayNoLess, StartsKeepFarm}
use Rattle.wf_store.specs.Call.{Call, drawn, read}
use Rattle.wf_store.specs.declared.file_name.FileName.TheVariants.{Heard}
use Rattle.wf_tape.specs.declared.tape.Tape.{Ghosts as Tape}
use Rattle.wf_histories.specs.Joiners.{AreCutOnOne, CutFarmsAreKept, StartCut}

-- starts in between leave no less
starts_say_no_less : StartsKeepFarm → (published : ℕ) (cuts : List StartCut) (old calls : List Call) → AreCutOnOne old cuts calls → CutsSayNoLess published old → CutsSayNoLess published calls
starts_say_no_less starts published [] old calls same says = subst (CutsSayNoLess published) (sym same) says
starts_say_no_less starts published (cut ∷ later) old calls are says =
    let on = are.0 in
    starts_say_no_less starts published later cut.made calls are.1 (starts cut.line old cut.made cut.whole on.after on.rest on.start on.reads published says)

module _ {T : Type 0} (tapes : Tape T) where
  pub cut_farms_are_kept : CutsKeepFarm → StartsKeepFarm → CutFarmsAreKept tapes
  cut_farms_are_kept keep starts last next stays cuts calls are bytes left same put has =
      let counted = last.has.is_start.is_counted in
      let older : List Call = read Heard counted.is_counted.bytes ∷ drawn counted.life ∷ counted.on_tape in
      let stays_put = subst (λ (cs : List Call). StaysFrom cs last.new) counted.is_counted.calls stays in
      let says : CutsSayNoLess (published_in put) last.new = λ image kept.
      let raise = keep last.has.written older last.new last.has.sound stays_put image kept in
      record { file = raise.file; sound = raise.sound; is = raise.is; no_less = raise.no_less put has } in
      let is_file = next.has.is_start.is_admitted.is_file in
      says_found is_file.found is_file.tape _ (published_in put) next.has.file bytes is_file.start is_file.looked.sound (subst (λ (found : Option (List ℕ)). IsFoundIn found is_file.found) same is_file.looked.is)
      (starts_say_no_less starts (published_in put) cuts last.new calls are says bytes left)
