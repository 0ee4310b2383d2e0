-- A node whose tape failed is opened again, on what it left.
use Rattle.std.specs.Prelude.{◌≡◌, ◌⊎◌}
use Rattle.wf_model.specs.Table.{store}
use Rattle.wf_node.specs.Node.{Node, stored_of}

-- The new node has stored what the old one had, or that with the record that the old one keeps of
-- the step within which its tape failed.
abbrev pub HasStoredAs : {T : Type 0} → Node T → Node T → Type 0
HasStoredAs old new = (stored_of new ≡ stored_of old) ⊎ (stored_of new ≡ store (stored_of old) old.failed)
