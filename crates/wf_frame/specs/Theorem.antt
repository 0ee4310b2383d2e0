-- The theorems about frames and their bodies: a frame has one reading, and none is a prefix of
-- another; which bytes are part of a frame; which errors remain.
use Rattle.std.specs.Prelude.{◌≡◌, ◌↔◌, ℕ, List, ◌++◌, length, true, Some, None, option_map, Ok, Err, if◌then◌else◌}
use Rattle.wf_ballot.specs.Field.{frame}
use Rattle.wf_ballot.specs.Front.{AreBytes}
use Rattle.wf_frame.specs.declared.fault.FrameFault.{FrameFault}
use Rattle.wf_frame.specs.declared.fault.FrameFault.TheVariants.{Short}
use Rattle.wf_frame.specs.Layout.{Layout, Body, IsBody, body_bytes, body_texts, fits, read_body, has_fields, texts_in}
use Rattle.wf_frame.specs.Frame.{Format, HasBody, frame_front, IsUnfinishedFrame}

-- the bytes begin with the frame of this version and kind with this body
pub record IsFramed (format : Format) (bytes : List ℕ) (version byte : ℕ) (body : List ℕ) : Type 0 where
  pub rest : List ℕ
  pub parts : bytes ≡ frame version byte body ++ rest
  pub has_body : HasBody format version byte body
  pub body_bytes : AreBytes body

-- A whole frame is split off whatever follows it, and what is split off is at the front; an error
-- but that of too few bytes remains whatever follows; and that one means part of a frame.
pub record FramesAreRead (format : Format) : Type 0 where
  pub whole : (version byte : ℕ) (body rest : List ℕ) → HasBody format version byte body → frame_front format (frame version byte body ++ rest) ≡ Ok (version, byte, body)
  pub front : (bytes : List ℕ) (version byte : ℕ) (body : List ℕ) → AreBytes bytes → frame_front format bytes ≡ Ok (version, byte, body) → IsFramed format bytes version byte body
  pub remains : (bytes more : List ℕ) (fault : FrameFault) → frame_front format bytes ≡ Err fault → (fault ≡ Short → ⊥) → frame_front format (bytes ++ more) ≡ Err fault
  pub short : (bytes : List ℕ) → (frame_front format bytes ≡ Err Short) ↔ IsUnfinishedFrame format bytes

-- A body has a length that its layout allows, it is read as its parts, and what is read has those
-- bytes. It is read iff each field is in its range, by byte offset, and its texts are those that
-- follow the fields.
pub record BodiesAreRead : Type 0 where
  pub fit : (layout : Layout) (body : Body layout) → IsBody layout body → fits layout (length (body_bytes layout body)) ≡ true
  pub again : (layout : Layout) (body : Body layout) → IsBody layout body → read_body layout (body_bytes layout body) (λ b. b) ≡ Some body
  pub stand : (layout : Layout) (bytes : List ℕ) (body : Body layout) → AreBytes bytes → fits layout (length bytes) ≡ true → read_body layout bytes (λ b. b) ≡ Some body → bytes ≡ body_bytes layout body
  pub checked : (layout : Layout) (bytes : List ℕ) → option_map (body_texts layout) (read_body layout bytes (λ b. b)) ≡ (if has_fields layout bytes then Some (texts_in layout bytes) else None)

-- what a frame says: its version, its kind with the layout of its body, and what that says
pub record Payload : Type 0 where
  pub version : ℕ
  pub byte : ℕ
  pub layout : Layout
  pub body : Body layout

pub record IsPayload (format : Format) (payload : Payload) : Type 0 where
  pub is_read : format.is_read payload.version ≡ true
  pub has_kind : format.layout payload.version payload.byte ≡ Some payload.layout
  pub is_body : IsBody payload.layout payload.body

-- the bytes of the frame that says so
abbrev pub payload_bytes : Payload → List ℕ
payload_bytes payload = frame payload.version payload.byte (body_bytes payload.layout payload.body)

-- No frame is a prefix of another, and a frame has one reading: if two frames, each followed by
-- other bytes, are equal, so is what they say.
abbrev pub NoneBeginsAnother : Format → Type 0
NoneBeginsAnother format = (x y : Payload) (after_x after_y : List ℕ) → IsPayload format x → IsPayload format y →
    payload_bytes x ++ after_x ≡ payload_bytes y ++ after_y → x ≡ y
