-- Records have a format: no body is longer than the longest.
use Rattle.std.proofs.Common.{◌≡◌, ℕ, ◌≤◌, true, false, eqb, Bool, cond, List, [], ◌∷◌, Some, refl, subst, arith}
use Rattle.std.specs.Prelude.{find}
use Rattle.std.proofs.lemmas.Bool.{eqb-true}
use Rattle.std.proofs.lemmas.Option.{option_and_then_some}
use Rattle.wf_canon.specs.Canon.{most_canon_bytes}
use Rattle.wf_frame.specs.Row.{layout_of}
use Rattle.wf_frame.specs.RowTheorems.{AreWithin, kinds_within}
use Rattle.wf_frame.specs.Frame.{IsFormat}
use Rattle.wf_journal.specs.declared.version.Version.{Version}
use Rattle.wf_journal.specs.declared.version.Version.TheVariants.{One, Two}
use Rattle.wf_journal.specs.Version.{version_byte, all_versions, version_of_byte, most_text}
use Rattle.wf_journal.specs.KindTable.{kinds, most_body_bytes}
use Rattle.wf_journal.specs.Encoding.{format}

pub version_again : (version : Version) → version_of_byte (version_byte version) ≡ Some version
unfolding version_of_byte
version_again One = refl
version_again Two = refl

found_by : (b : Bool) (byte : ℕ) (first : Version) (others : List Version) (version : Version) → eqb byte (version_byte first) ≡ b →
    (find (λ v. eqb byte (version_byte v)) others ≡ Some version → eqb byte (version_byte version) ≡ true) →
    cond b (Some first) (find (λ v. eqb byte (version_byte v)) others) ≡ Some version → eqb byte (version_byte version) ≡ true
found_by true byte first others version is later e = let same : first ≡ version = cc in subst (λ (v : Version). eqb byte (version_byte v) ≡ true) same is
found_by false byte first others version is later e = later e

found : (byte : ℕ) (versions : List Version) (version : Version) → find (λ v. eqb byte (version_byte v)) versions ≡ Some version → eqb byte (version_byte version) ≡ true
found byte [] version e = absurd cc
found byte (first ∷ others) version e = found_by (eqb byte (version_byte first)) byte first others version refl (found byte others version) e

pub version_stands : (byte : ℕ) (version : Version) → version_of_byte byte ≡ Some version → byte ≡ version_byte version
unfolding version_of_byte
version_stands byte version e = eqb-true byte (version_byte version) (found byte all_versions version e)

-- no version has longer texts than the one that is written
pub text_within : (version : Version) → most_text version ≤ most_canon_bytes
text_within One = omega arith
text_within Two = omega arith

-- no kind has a longer body
are_within : (most : ℕ) → most ≤ most_canon_bytes → AreWithin most_body_bytes (kinds most)
are_within most short = (omega arith, (omega arith, (omega (arith, short), (omega (arith, short), tt))))

pub is_format : IsFormat format
is_format = record {
  within = λ version byte layout n known has.
      option_and_then_some (λ v. layout_of (kinds (most_text v)) byte) (version_of_byte version) layout known (λ v is goes.
      kinds_within most_body_bytes (kinds (most_text v)) byte layout n (are_within (most_text v) (text_within v)) goes has);
  has_four_bytes = omega arith;
}
