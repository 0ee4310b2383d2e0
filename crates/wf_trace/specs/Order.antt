-- What is seen of processes in one order of time: the inputs that each takes, and the messages that
-- it sends by each. Its stops and restarts aren't seen.
use Rattle.std.specs.Prelude.{◌≡◌, ℕ, ◌<◌, ◌==◌, Bool, ⊤, List, [], ◌∷◌, ◌++◌, if◌then◌else◌}
use Rattle.wf_model.specs.Message.{Message}
use Rattle.wf_model.specs.Table.{Input}
use Rattle.wf_model.specs.World.{Node}
use Rattle.wf_trace.specs.Deed.{Deed, Takes, Crashes, Stops, Restarts, new_node}
use Rattle.wf_trace.specs.Trace.{Entry, of_process, outputs_by, IsLifeByEntries, IsInputOf, GoOn, IsTrace}

-- the process of that number took this input, and sent these messages by it
pub record Item (V : Type 0) : Type 0 where
  pub process : ℕ
  pub input : Input V
  pub outputs : List (Message V)

-- what is seen of a deed of process i by which it sent these messages
abbrev pub seen_of : {V : Type 0} → ℕ → List (Message V) → Deed V → List (Item V)
seen_of i outputs (Takes input) = record { process = i; input = input; outputs = outputs } ∷ []
seen_of i outputs (Crashes input kept) = record { process = i; input = input; outputs = outputs } ∷ []
seen_of i outputs Stops = []
seen_of i outputs Restarts = []

unfoldable pub seen : {V : Type 0} → List (Entry V) → List (Item V)
seen [] = []
seen (entry ∷ entries) = seen_of entry.process entry.outputs entry.deed ++ seen entries

-- the items of one process, in their order
unfoldable pub items_of : {V : Type 0} → ℕ → List (Item V) → List (Item V)
items_of i [] = []
items_of i (item ∷ items) = if item.process == i then item ∷ items_of i items else items_of i items

-- all messages that were sent, in their order
unfoldable pub outputs_in : {V : Type 0} → List (Item V) → List (Message V)
outputs_in [] = []
outputs_in (item ∷ items) = item.outputs ++ outputs_in items

-- Each item is of one of the n processes, and a message that it delivers is one of these or of
-- those that earlier items sent.
abbrev pub AreCausal : {V : Type 0} → ℕ → List (Message V) → List (Item V) → Type 0
AreCausal n sent [] = ⊤
AreCausal n sent (item ∷ items) = (item.process < n) × IsInputOf sent item.input × AreCausal n (sent ++ item.outputs) items

-- each entry is of process i
abbrev pub AreOf : {V : Type 0} → ℕ → List (Entry V) → Type 0
AreOf i [] = ⊤
AreOf i (entry ∷ entries) = (entry.process ≡ i) × AreOf i entries

-- Each process's entries are its life, from a new node on, and what is seen of them are its items.
pub record AreLives {V : Type 0} (same : V → V → Bool) (n : ℕ) (items : List (Item V)) (lives : ℕ → List (Entry V)) (nodes : ℕ → Node V) : Type 0 where
  pub own : (i : ℕ) → i < n → AreOf i (lives i)
  pub life : (i : ℕ) → i < n → IsLifeByEntries same n i new_node (lives i) (nodes i)
  pub shown : (i : ℕ) → i < n → seen (lives i) ≡ items_of i items

-- One list of entries is a trace: it has each process's entries in their order, and the messages of
-- the items in theirs.
pub record AreOneTrace {V : Type 0} (same : V → V → Bool) (n : ℕ) (items : List (Item V)) (lives : ℕ → List (Entry V)) (nodes : ℕ → Node V) : Type 0 where
  pub entries : List (Entry V)
  pub trace : IsTrace same n entries nodes
  pub each : (i : ℕ) → i < n → of_process i entries ≡ lives i
  pub messages : outputs_by entries ≡ outputs_in items

-- Lives of n processes are one trace, if one order of time has what is seen of them, and each
-- message is delivered after it was sent.
abbrev pub LivesAreOneTrace : Type 0 → Type 0
LivesAreOneTrace V = (same : V → V → Bool) (n : ℕ) (items : List (Item V)) (lives : ℕ → List (Entry V)) (nodes : ℕ → Node V) →
    AreLives same n items lives nodes → AreCausal n [] items → AreOneTrace same n items lives nodes

-- ---- from any nodes on

-- Each process's entries are its life, from one of these nodes on, and what is seen of them are its
-- items.
pub record AreLivesFrom {V : Type 0} (same : V → V → Bool) (n : ℕ) (nodes : ℕ → Node V) (items : List (Item V)) (lives : ℕ → List (Entry V)) (after : ℕ → Node V) : Type 0 where
  pub own : (i : ℕ) → i < n → AreOf i (lives i)
  pub life : (i : ℕ) → i < n → IsLifeByEntries same n i (nodes i) (lives i) (after i)
  pub shown : (i : ℕ) → i < n → seen (lives i) ≡ items_of i items

-- One list of entries goes on from these nodes and messages: it has each process's entries in their
-- order, and the messages of the items in theirs.
pub record GoOnAsOne {V : Type 0} (same : V → V → Bool) (n : ℕ) (sent : List (Message V)) (nodes : ℕ → Node V) (items : List (Item V)) (lives : ℕ → List (Entry V)) (after : ℕ → Node V) : Type 0 where
  pub entries : List (Entry V)
  pub goes_on : GoOn same n sent nodes entries after
  pub each : (i : ℕ) → i < n → of_process i entries ≡ lives i
  pub messages : outputs_by entries ≡ outputs_in items

-- Lives from any nodes on, where any messages were sent, go on as one list of entries, if one order
-- of time has what is seen of them, and each message is delivered after it was sent.
abbrev pub LivesGoOn : Type 0 → Type 0
LivesGoOn V = (same : V → V → Bool) (n : ℕ) (sent : List (Message V)) (nodes after : ℕ → Node V) (items : List (Item V)) (lives : ℕ → List (Entry V)) →
    AreLivesFrom same n nodes items lives after → AreCausal n sent items → GoOnAsOne same n sent nodes items lives after
