-- Whatever is done to a process, its run goes on.
use Rattle.std.proofs.Common.{◌≡◌, ◌⊎◌, ℕ, ◌<◌, ◌≤◌, Bool, true, false, List, [], ◌∷◌, ◌++◌, Option, Some, None, Result, refl, sym, subst, ap, ◌∙◌, inl, inr, append-nil, append_assoc}
use Rattle.std.proofs.lemmas.Bool.{cases_Bool, cases_lt}
use Rattle.std.specs.Prelude.{if◌then◌else◌}
use Rattle.wf_wire.specs.Post.{logged}
use Rattle.wf_actor.specs.Process.{IsActed, IsFirstGiven, IsGoingOn, IsJustOpened, IsReceived, IsSameActor, ReceivesOwn, emitted_by}
use Rattle.wf_actor.specs.Start.{IsOpened}
use Rattle.wf_actor.specs.declared.actor.Actor.{Actor}
use Rattle.wf_actor.specs.declared.actor.Origin.{Origin}
use Rattle.wf_actor.specs.declared.actor.Origin.TheVariants as origins
use Rattle.wf_actor.specs.declared.process.Process.{Process}
use Rattle.wf_actor.specs.Sent.{Stream}
use Rattle.wf_wire.specs.declared.post.Post.{Post}
use Rattle.wf_wire.specs.declared.target.Target.{Target}
use Rattle.wf_def.specs.Definition.{Definition}
use Rattle.wf_model.specs.declared.action.Action.{Action}
use Rattle.wf_model.specs.declared.action.Action.TheVariants as actions
use Rattle.wf_codec.specs.declared.message.Message.{Message}
use Rattle.wf_edge.specs.declared.outcome.Outcome.{Outcome}
use Rattle.wf_actor.specs.Reachability.{outputs_by}
use Rattle.wf_voter.proofs.Learnt.{asking_asks, questions_more, told_asks}
use Rattle.wf_mail.specs.Mail.{IsFirstPart}
use Rattle.wf_node.specs.Reopening.{HasStoredAs}
use Rattle.wf_node.specs.declared.fault.NodeFault.{NodeFault}
use Rattle.wf_tape.specs.declared.tape.Tape.{Ghosts as Tape}
use Rattle.wf_voter.specs.Answer.{HasResponded, IsProcessAnswer}
use Rattle.wf_codec.specs.Message.{view}
use Rattle.wf_voter.specs.Folder.{Stand, with_heard}
use Rattle.wf_peer.specs.PeerProgressText.{peer_progress_text}
use Rattle.wf_peer.specs.Told.{HearAll, IsHeardOf, IsHeardText}
use Rattle.wf_peer.specs.declared.heard.Heard.{Heard}
use Rattle.wf_voter.specs.Continuation.{AreHeardFrom, AreRunsFrom, AreRunsHeardFrom, Continues, ContinuesIn, IsNextRun, StaysInRun, HasLearnt, HasOnlyServed, IsEarlier, IsHeardFrom, IsHeardKept, IsLater, KeepsEarlier, StaysSuspended, besides_asks, besides_chosen, besides_questions, is_ask, is_chosen}
use Rattle.wf_voter.specs.declared.voter.Voter.{Voter}
use Rattle.wf_membership.specs.declared.gate.Gate.TheVariants as gates
use Rattle.wf_membership.specs.declared.membership.Membership.{Membership}

-- ---- beginnings of lists

whole : {A : Type 0} (xs ys : List A) → ys ≡ xs → IsFirstPart xs ys
whole xs ys same = ([], append-nil xs ∙ sym same)

grown : {A : Type 0} (xs more ys : List A) → ys ≡ xs ++ more → IsFirstPart xs ys
grown xs more ys is = (more, sym is)

through : {A : Type 0} (xs ys zs : List A) → IsFirstPart xs ys → IsFirstPart ys zs → IsFirstPart xs zs
through xs ys zs (rest, e) (more, h) = (rest ++ more, sym (append_assoc xs rest more) ∙ subst (λ k. k ++ more ≡ zs) (sym e) h)

-- ---- messages that ask for what is published

one_asked : (given : List (Message × Origin)) (m : Message) (origin : Origin) → is_ask m ≡ true → besides_asks (given ++ (m, origin) ∷ []) ≡ besides_asks given
unfolding besides_asks
one_asked [] m origin asks = ap (λ (b : Bool). if b then [] else (m, origin) ∷ []) asks
one_asked (x ∷ xs) m origin asks = ap (λ (ys : List (Message × Origin)). if is_ask x.0 then ys else x ∷ ys) (one_asked xs m origin asks)

besides_same : (before after : List (Message × Origin)) → after ≡ before → besides_asks after ≡ besides_asks before
besides_same before after same = ap besides_asks same

-- ---- messages that say what is published

one_chosen : (given : List (Message × Origin)) (m : Message) (origin : Origin) → is_chosen m ≡ true → besides_chosen (given ++ (m, origin) ∷ []) ≡ besides_chosen given
unfolding besides_chosen
one_chosen [] m origin says = ap (λ (b : Bool). if b then [] else (m, origin) ∷ []) says
one_chosen (x ∷ xs) m origin says = ap (λ (ys : List (Message × Origin)). if is_chosen x.0 then ys else x ∷ ys) (one_chosen xs m origin says)

-- ---- messages whose round and promise were heard before

heard_on : (known : List (Option Heard)) (given more : List (Message × Origin)) → AreHeardFrom known given → AreHeardFrom known more → AreHeardFrom known (given ++ more)
unfolding AreHeardFrom
heard_on known [] more first second = second
heard_on known (x ∷ xs) more first second = (first.0, heard_on known xs more first.1 second)

one_heard : (known : List (Option Heard)) (m : Message) (origin : Origin) → IsHeardFrom known m origin → AreHeardFrom known ((m, origin) ∷ [])
unfolding AreHeardFrom
one_heard known m origin is = (is, tt)

heard_one : (known : List (Option Heard)) (given : List (Message × Origin)) (m : Message) (origin : Origin) → AreHeardFrom known given → IsHeardFrom known m origin → AreHeardFrom known (given ++ (m, origin) ∷ [])
heard_one known given m origin first is = heard_on known given ((m, origin) ∷ []) first (one_heard known m origin is)

heard_none : (known : List (Option Heard)) → AreHeardFrom known []
unfolding AreHeardFrom
heard_none known = tt

heard_by : (known : List (Option Heard)) (given given' : List (Message × Origin)) → given' ≡ given → AreHeardFrom known given → AreHeardFrom known given'
heard_by known given given' same is = subst (λ (xs : List (Message × Origin)). AreHeardFrom known xs) (sym same) is

-- what was heard before is heard later
from_later : (earlier later : List (Option Heard)) → HearAll earlier later → (m : Message) (origin : Origin) → IsHeardFrom earlier m origin → IsHeardFrom later m origin
from_later earlier later all m origins.Own is = tt
from_later earlier later all m (origins.Peer i stream) is = all i m is

heard_later : (earlier later : List (Option Heard)) → HearAll earlier later → (given : List (Message × Origin)) → AreHeardFrom earlier given → AreHeardFrom later given
unfolding AreHeardFrom
heard_later earlier later all [] are = tt
heard_later earlier later all (x ∷ xs) are = (from_later earlier later all x.0 x.1 are.0, heard_later earlier later all xs are.1)

hear_still : (known : List (Option Heard)) → HearAll known known
hear_still known = λ i m is. is

-- ---- what a node goes by of replacements stays, so its folder still joins

joins_on : (before after : Membership) → after ≡ before → before.joins ≡ true → after.joins ≡ true
joins_on before after same is = ap (λ (m : Membership). m.joins) same ∙ is

-- ---- one of two ways, as a test says, or as an order does

by_test : {P : Type 0} (test : Bool) → (test ≡ true → P) → (test ≡ false → P) → P
by_test test holds fails = elim (cases_Bool test) [
  | inl is ↦ holds is
  | inr is ↦ fails is
]

by_order : {P : Type 0} (a b : ℕ) → (a < b → P) → (b ≤ a → P) → P
by_order a b below above = elim (cases_lt a b) [
  | inl is ↦ below is
  | inr is ↦ above is
]

module _ {T : Type 0} (tapes : Tape T) where
  -- ---- a run

  later_same : (before after : Actor T tapes) → after ≡ before → IsLater tapes before after
  later_same before after same = record {
    number = ap (λ (a : Actor T tapes). a.node.id) same;
    read_from = ap (λ (a : Actor T tapes). a.read_from.items) same;
    stood = whole _ _ (ap (λ (a : Actor T tapes). a.stood.items) same);
    given = whole _ _ (ap (λ (a : Actor T tapes). a.given.items) same);
    emitted = whole _ _ (ap (λ (a : Actor T tapes). logged a.emitted.items) same);
  }

  later_twice : (one two three : Actor T tapes) → IsLater tapes one two → IsLater tapes two three → IsLater tapes one three
  later_twice one two three first second = record {
    number = second.number ∙ first.number;
    read_from = second.read_from ∙ first.read_from;
    stood = through _ _ _ first.stood second.stood;
    given = through _ _ _ first.given second.given;
    emitted = through _ _ _ first.emitted second.emitted;
  }

  -- ---- a process

  goes_still : (process : Process T tapes) → StaysInRun tapes process process
  goes_still process = record { actor = later_same process.actor process.actor refl; among = refl; ended = refl }

  goes_twice : (one two three : Process T tapes) → StaysInRun tapes one two → StaysInRun tapes two three → StaysInRun tapes one three
  goes_twice one two three first second = record {
    actor = later_twice one.actor two.actor three.actor first.actor second.actor;
    among = second.among ∙ first.among;
    ended = second.ended ∙ first.ended;
  }

  pub unchanged : (before after : Process T tapes) → after ≡ before → StaysInRun tapes before after
  unchanged before after same = subst (λ (p : Process T tapes). StaysInRun tapes before p) (sym same) (goes_still before)

  same_actor : (before after : Process T tapes) → IsSameActor before after → StaysInRun tapes before after
  same_actor before after is = record { actor = later_same before.actor after.actor is.actor; among = is.among; ended = is.ended }

  going_on : (before after : Process T tapes) (outputs : List Message) → IsGoingOn before after → emitted_by after ≡ emitted_by before ++ outputs
      → IsFirstPart before.actor.given.items after.actor.given.items → StaysInRun tapes before after
  going_on before after outputs goes emitted given = record {
    actor = record {
      number = goes.number;
      read_from = goes.read_from;
      stood = grown _ _ _ goes.stood;
      given = given;
      emitted = grown _ outputs _ emitted;
    };
    among = goes.among;
    ended = goes.ended;
  }

  -- an act
  pub acted : {U : Type 0} (input : Action Definition Message) (origin : Origin) (target : Target) (before : Process T tapes) (result : Result U NodeFault) (after : Process T tapes)
      → IsActed tapes input origin target before result after → StaysInRun tapes before after
  acted input origin target before result after is = going_on before after _ is.goes_on is.emitted (grown _ _ _ is.given)

  -- nothing is given to one that tries again
  pub retried : {U : Type 0} (target : Target) (before : Process T tapes) (result : Result U NodeFault) (after : Process T tapes)
      → IsActed tapes actions.Retry origins.Own target before result after → after.actor.given.items ≡ before.actor.given.items
  retried target before result after is = is.given ∙ append-nil before.actor.given.items

  -- nothing is given to one that asks, and it returns nothing but a question
  pub asked_alone : {U : Type 0} (target : Target) (before : Process T tapes) (result : Result U NodeFault) (after : Process T tapes)
      → IsActed tapes actions.CatchUp origins.Own target before result after → HasLearnt tapes before.actor after.actor
  asked_alone target before result after is = record {
    given = ap besides_chosen (is.given ∙ append-nil before.actor.given.items);
    returned = ap besides_questions is.emitted ∙ questions_more (emitted_by before) (outputs_by is.answer) (asking_asks tapes before.actor.node after.actor.node is.answer is.steps);
  }

  pub asked : {U : Type 0} (target : Target) (before : Process T tapes) (result : Result U NodeFault) (after : Process T tapes)
      → IsActed tapes actions.CatchUp origins.Own target before result after → after.actor.given.items ≡ before.actor.given.items
  asked target before result after is = is.given ∙ append-nil before.actor.given.items

  -- a message of its own, or of a peer
  pub own_received : {U : Type 0} (before : Process T tapes) (result : Option (Result U NodeFault)) (after : Process T tapes) → ReceivesOwn tapes before result after → StaysInRun tapes before after
  own_received before None after is = unchanged before after is.1
  own_received before (Some result) after is = goes_twice before is.1 after (same_actor before is.1 is.2.rest) (going_on is.1 after _ is.3.goes_on is.3.emitted (grown _ _ _ is.3.given))

  received_from : {U : Type 0} (m : Message) (peer : ℕ) (stream : Stream) (before : Process T tapes) (result : Result U NodeFault) (after : Process T tapes) → IsReceived tapes m (origins.Peer peer stream) peer before result after → StaysInRun tapes before after
  received_from m peer stream before result after is = going_on before after _ is.goes_on is.emitted (grown _ _ _ is.given)

  -- what it is given by its own message, or by one of a peer that was heard before
  pub own_heard : {U : Type 0} (before : Process T tapes) (result : Option (Result U NodeFault)) (after : Process T tapes) → ReceivesOwn tapes before result after
      → (known : List (Option Heard)) → AreHeardFrom known before.actor.given.items → AreHeardFrom known after.actor.given.items
  own_heard before None after is known are = heard_by known _ _ (ap (λ (p : Process T tapes). p.actor.given.items) is.1) are
  own_heard before (Some result) after is known are =
      heard_by known _ _ (is.3.given ∙ ap (λ (a : Actor T tapes). a.given.items ++ (is.0, origins.Own) ∷ []) is.2.rest.actor)
      (heard_one known before.actor.given.items is.0 origins.Own are tt)

  peer_heard : {U : Type 0} (m : Message) (peer : ℕ) (stream : Stream) (before : Process T tapes) (result : Result U NodeFault) (after : Process T tapes) (known : List (Option Heard))
      → IsHeardOf known peer (view m) → IsReceived tapes m (origins.Peer peer stream) peer before result after → AreHeardFrom known before.actor.given.items → AreHeardFrom known after.actor.given.items
  peer_heard m peer stream before result after known heard is are =
      heard_by known _ _ is.given (heard_one known before.actor.given.items m (origins.Peer peer stream) are heard)

  -- one that asks for what is published
  next_asked : {U : Type 0} (m : Message) (peer : ℕ) (stream : Stream) (before : Process T tapes) (result : Result U NodeFault) (after : Process T tapes) → is_ask m ≡ true
      → IsReceived tapes m (origins.Peer peer stream) peer before result after → besides_asks after.actor.given.items ≡ besides_asks before.actor.given.items
  next_asked m peer stream before result after asks is = ap besides_asks is.given ∙ one_asked before.actor.given.items m (origins.Peer peer stream) asks

  -- one that says what is published
  next_chosen : {U : Type 0} (m : Message) (peer : ℕ) (stream : Stream) (before : Process T tapes) (result : Result U NodeFault) (after : Process T tapes) → is_chosen m ≡ true
      → IsReceived tapes m (origins.Peer peer stream) peer before result after → HasLearnt tapes before.actor after.actor
  next_chosen m peer stream before result after says is = record {
    given = ap besides_chosen is.given ∙ one_chosen before.actor.given.items m (origins.Peer peer stream) says;
    returned = ap besides_questions is.emitted ∙ questions_more (emitted_by before) (outputs_by is.answer) (told_asks tapes before.actor.node after.actor.node m is.answer says is.steps);
  }

  -- ---- one that joins

  learnt_same : (before after : Actor T tapes) → after ≡ before → HasLearnt tapes before after
  learnt_same before after same = record {
    given = ap (λ (a : Actor T tapes). besides_chosen a.given.items) same;
    returned = ap (λ (a : Actor T tapes). besides_questions (logged a.emitted.items)) same;
  }

  learnt_twice : (one two three : Actor T tapes) → HasLearnt tapes one two → HasLearnt tapes two three → HasLearnt tapes one three
  learnt_twice one two three first second = record { given = second.given ∙ first.given; returned = second.returned ∙ first.returned }

  -- ---- what the file `heard` has

  kept_by : (before after : Voter T tapes) → after.kept ≡ before.kept → after.process.ended.items ≡ before.process.ended.items
      → ((known : List (Option Heard)) → AreHeardFrom known before.process.actor.given.items → AreHeardFrom known after.process.actor.given.items)
      → (heard : Option (List ℕ)) → IsHeardKept heard before → IsHeardKept heard after
  kept_by before after same ended grows heard is = record {
    known = is.known;
    text = is.text;
    all = subst (λ (k : List (Option Heard)). HearAll k is.known) (sym same) is.all;
    given = subst (λ (k : List (Option Heard)). AreHeardFrom k after.process.actor.given.items) (sym same) (grows before.kept is.given);
    ended = subst (λ (k : List (Option Heard)). AreRunsHeardFrom tapes k after.process.ended.items) (sym same)
        (subst (λ (runs : List (Actor T tapes × ℕ)). AreRunsHeardFrom tapes before.kept runs) (sym ended) is.ended);
  }

  kept_as : (before after : Voter T tapes) → after.kept ≡ before.kept → after.process ≡ before.process → (heard : Option (List ℕ)) → IsHeardKept heard before → IsHeardKept heard after
  kept_as before after same is =
      kept_by before after same (ap (λ (p : Process T tapes). p.ended.items) is)
      (λ known are. heard_by known _ _ (ap (λ (p : Process T tapes). p.actor.given.items) is) are)

  kept_given : (before after : Voter T tapes) → after.kept ≡ before.kept → after.process.ended.items ≡ before.process.ended.items → after.process.actor.given.items ≡ before.process.actor.given.items
      → (heard : Option (List ℕ)) → IsHeardKept heard before → IsHeardKept heard after
  kept_given before after same ended given = kept_by before after same ended (λ known are. heard_by known _ _ given are)

  -- runs that have ended
  runs_later : (earlier later : List (Option Heard)) → HearAll earlier later → (runs : List (Actor T tapes × ℕ)) → AreRunsHeardFrom tapes earlier runs → AreRunsHeardFrom tapes later runs
  unfolding AreRunsHeardFrom
  runs_later earlier later all [] are = tt
  runs_later earlier later all (run ∷ runs) are = (heard_later earlier later all run.0.given.items are.0, runs_later earlier later all runs are.1)

  one_run_more : (known : List (Option Heard)) (runs : List (Actor T tapes × ℕ)) (run : Actor T tapes) (k : ℕ) → AreRunsHeardFrom tapes known runs → AreHeardFrom known run.given.items
      → AreRunsHeardFrom tapes known (runs ++ (run, k) ∷ [])
  unfolding AreRunsHeardFrom
  one_run_more known [] run k are is = (is, tt)
  one_run_more known (first ∷ runs) run k are is = (are.0, one_run_more known runs run k are.1 is)

  -- a run ends and another begins, to which nothing was given yet
  pub kept_begun : (before after : Voter T tapes) → after.kept ≡ before.kept → after.process.ended.items ≡ before.process.ended.items ++ (before.process.actor, 0) ∷ []
      → after.process.actor.given.items ≡ [] → (heard : Option (List ℕ)) → IsHeardKept heard before → IsHeardKept heard after
  kept_begun before after same ended given heard is = record {
    known = is.known;
    text = is.text;
    all = subst (λ (k : List (Option Heard)). HearAll k is.known) (sym same) is.all;
    given = heard_by after.kept [] after.process.actor.given.items given (heard_none after.kept);
    ended = subst (λ (k : List (Option Heard)). AreRunsHeardFrom tapes k after.process.ended.items) (sym same)
        (subst (λ (runs : List (Actor T tapes × ℕ)). AreRunsHeardFrom tapes before.kept runs) (sym ended)
        (one_run_more before.kept before.process.ended.items before.process.actor 0 is.ended is.given));
  }

  -- the file `heard` has what was heard since, too, and the voter knows it
  pub kept_more : (known : List (Option Heard)) (text : List ℕ) (stood stands : Stand) (before after : Voter T tapes) → HearAll before.kept known → text ≡ peer_progress_text known
      → stands ≡ with_heard text stood → after.kept ≡ known → after.process ≡ before.process → IsHeardKept stood.heard before → IsHeardKept stands.heard after
  kept_more known text stood stands before after all is_text put now same is = record {
    known = known;
    text = subst (λ (s : Stand). IsHeardText s.heard known) (sym put) (inl is_text);
    all = subst (λ (k : List (Option Heard)). HearAll k known) (sym now) (hear_still known);
    given = subst (λ (k : List (Option Heard)). AreHeardFrom k after.process.actor.given.items) (sym now)
        (heard_by known _ _ (ap (λ (p : Process T tapes). p.actor.given.items) same) (heard_later before.kept known all before.process.actor.given.items is.given));
    ended = subst (λ (k : List (Option Heard)). AreRunsHeardFrom tapes k after.process.ended.items) (sym now)
        (subst (λ (runs : List (Actor T tapes × ℕ)). AreRunsHeardFrom tapes known runs) (sym (ap (λ (p : Process T tapes). p.ended.items) same))
        (runs_later before.kept known all before.process.ended.items is.ended));
  }

  -- it has that, or what it had, and the voter doesn't know which
  pub kept_either : (known : List (Option Heard)) (text : List ℕ) (stood stands : Stand) (voter : Voter T tapes) → HearAll voter.kept known → text ≡ peer_progress_text known
      → (stands ≡ stood) ⊎ (stands ≡ with_heard text stood) → IsHeardKept stood.heard voter → IsHeardKept stands.heard voter
  kept_either known text stood stands voter all is_text (inl same) is = subst (λ (s : Stand). IsHeardKept s.heard voter) (sym same) is
  kept_either known text stood stands voter all is_text (inr put) is = record {
    known = known;
    text = subst (λ (s : Stand). IsHeardText s.heard known) (sym put) (inl is_text);
    all = all;
    given = is.given;
    ended = is.ended;
  }

  -- ---- a voter

  pub still : (voter : Voter T tapes) → Continues tapes voter voter
  still voter = record { process = goes_still voter.process; suspended = λ is. record { gate = is; actor = refl }; outvoted = refl; asked = λ _. refl; membership = refl; learnt = λ _. learnt_same voter.process.actor voter.process.actor refl; kept = λ heard is. is }

  pub twice : (one two three : Voter T tapes) → Continues tapes one two → Continues tapes two three → Continues tapes one three
  twice one two three first second = record {
    process = goes_twice one.process two.process three.process first.process second.process;
    suspended = λ is. let a = first.suspended is in let b = second.suspended a.gate in record { gate = b.gate; actor = b.actor ∙ a.actor };
    outvoted = second.outvoted ∙ first.outvoted;
    asked = λ is. second.asked (first.outvoted ∙ is) ∙ first.asked is;
    membership = second.membership ∙ first.membership;
    learnt = λ is. learnt_twice one.process.actor two.process.actor three.process.actor (first.learnt is) (second.learnt (joins_on one.membership two.membership first.membership is));
    kept = λ heard is. second.kept heard (first.kept heard is);
  }

  pub same_voter : (before after : Voter T tapes) → after ≡ before → Continues tapes before after
  same_voter before after same = subst (λ (v : Voter T tapes). Continues tapes before v) (sym same) (still before)

  -- one that acts, or is at least neither suspended nor outvoted and doesn't join, goes on as its
  -- process does
  pub awake : (before after : Voter T tapes) → ¬ (before.gate ≡ gates.Suspended) → before.is_outvoted ≡ false → before.membership.joins ≡ false → after.is_outvoted ≡ before.is_outvoted → after.membership ≡ before.membership → after.kept ≡ before.kept
      → StaysInRun tapes before.process after.process → ((known : List (Option Heard)) → AreHeardFrom known before.process.actor.given.items → AreHeardFrom known after.process.actor.given.items)
      → Continues tapes before after
  awake before after not agrees votes same member kept goes grows = record {
    process = goes;
    suspended = λ is. absurd (not is);
    outvoted = same;
    asked = λ is. absurd (let no = agrees in cc);
    membership = member;
    learnt = λ is. absurd (let no = votes in cc);
    kept = kept_by before after kept goes.ended grows;
  }

  pub acting : (before after : Voter T tapes) → before.gate ≡ gates.Open → before.is_outvoted ≡ false → before.membership.joins ≡ false → after.is_outvoted ≡ before.is_outvoted → after.membership ≡ before.membership → after.kept ≡ before.kept
      → StaysInRun tapes before.process after.process → ((known : List (Option Heard)) → AreHeardFrom known before.process.actor.given.items → AreHeardFrom known after.process.actor.given.items)
      → Continues tapes before after
  acting before after acts agrees votes same member kept goes grows = awake before after (λ is. let is_open = acts in cc) agrees votes same member kept goes grows

  pub same_given : (before after : Process T tapes) → after.actor.given.items ≡ before.actor.given.items
      → (known : List (Option Heard)) → AreHeardFrom known before.actor.given.items → AreHeardFrom known after.actor.given.items
  same_given before after same known are = heard_by known _ _ same are

  -- one that asks: it isn't suspended, and is given nothing
  pub asking : (before after : Voter T tapes) → before.gate ≡ gates.Open → after.is_outvoted ≡ before.is_outvoted → after.membership ≡ before.membership → after.kept ≡ before.kept → StaysInRun tapes before.process after.process
      → after.process.actor.given.items ≡ before.process.actor.given.items → HasLearnt tapes before.process.actor after.process.actor → Continues tapes before after
  asking before after is_open same member kept goes given learnt = record {
    process = goes;
    suspended = λ is. absurd (let at_open = is_open in cc);
    outvoted = same;
    asked = λ _. besides_same _ _ given;
    membership = member;
    learnt = λ _. learnt;
    kept = kept_given before after kept goes.ended given;
  }

  kept_taking : {U : Type 0} (before after : Voter T tapes) (m : Message) (peer : ℕ) (stream : Stream) (result : Result U NodeFault) → after.kept ≡ before.kept
      → IsHeardOf before.kept peer (view m) → IsReceived tapes m (origins.Peer peer stream) peer before.process result after.process
      → (heard : Option (List ℕ)) → IsHeardKept heard before → IsHeardKept heard after
  kept_taking before after m peer stream result same next receives heard is = record {
    known = is.known;
    text = is.text;
    all = subst (λ (k : List (Option Heard)). HearAll k is.known) (sym same) is.all;
    given = subst (λ (k : List (Option Heard)). AreHeardFrom k after.process.actor.given.items) (sym same)
        (peer_heard m peer stream before.process result after.process before.kept next receives is.given);
    ended = subst (λ (k : List (Option Heard)). AreRunsHeardFrom tapes k after.process.ended.items) (sym same)
        (subst (λ (runs : List (Actor T tapes × ℕ)). AreRunsHeardFrom tapes before.kept runs) (sym (received_from m peer stream before.process result after.process receives).ended) is.ended);
  }

  -- one that takes in a message: it isn't suspended; the message asks for what is published if the
  -- node is outvoted, and says what is if it joins
  pub taking : {U : Type 0} (before after : Voter T tapes) (m : Message) (peer : ℕ) (stream : Stream) (result : Result U NodeFault) → before.gate ≡ gates.Open → after.is_outvoted ≡ before.is_outvoted → after.membership ≡ before.membership
      → after.kept ≡ before.kept → (before.is_outvoted ≡ true → is_ask m ≡ true) → (before.membership.joins ≡ true → is_chosen m ≡ true) → IsHeardOf before.kept peer (view m)
      → IsReceived tapes m (origins.Peer peer stream) peer before.process result after.process → Continues tapes before after
  taking before after m peer stream result is_open same member kept asks says next receives = record {
    process = received_from m peer stream before.process result after.process receives;
    suspended = λ is. absurd (let at_open = is_open in cc);
    outvoted = same;
    asked = λ is. next_asked m peer stream before.process result after.process (asks is) receives;
    membership = member;
    learnt = λ is. next_chosen m peer stream before.process result after.process (says is) receives;
    kept = kept_taking before after m peer stream result kept next receives;
  }

  -- what waits alone
  same_node : (before after : Voter T tapes) → after.gate ≡ before.gate → after.is_outvoted ≡ before.is_outvoted → after.membership ≡ before.membership → after.kept ≡ before.kept → IsSameActor before.process after.process
      → Continues tapes before after
  same_node before after gate same member kept is = record {
    process = same_actor before.process after.process is;
    suspended = λ suspended. record { gate = gate ∙ suspended; actor = is.actor };
    outvoted = same;
    asked = λ _. ap (λ (a : Actor T tapes). besides_asks a.given.items) is.actor;
    membership = member;
    learnt = λ _. learnt_same before.process.actor after.process.actor is.actor;
    kept = kept_given before after kept is.ended (ap (λ (a : Actor T tapes). a.given.items) is.actor);
  }

  given_still : (posts : List Post) (before after : Process T tapes) → IsFirstGiven posts before after → IsSameActor before after
  given_still [] before after is = is.still
  given_still (post ∷ posts) before after is = is.still

  pub post_finished : (posts : List Post) (before after : Voter T tapes) → after.gate ≡ before.gate → after.is_outvoted ≡ before.is_outvoted → after.membership ≡ before.membership → after.kept ≡ before.kept
      → IsFirstGiven posts before.process after.process → Continues tapes before after
  post_finished posts before after gate same member kept is = same_node before after gate same member kept (given_still posts before.process after.process is)

  -- a client's request, which was answered, or wasn't
  pub answered : (before : Process T tapes) (came response : List ℕ) (outcome : Outcome) (after : Process T tapes) → IsProcessAnswer tapes before came response outcome after → StaysInRun tapes before after
  answered before came response outcome after is = going_on before after _ is.goes_on is.emitted (whole _ _ is.given)

  pub responded : (before : Voter T tapes) (came response : List ℕ) (after : Voter T tapes) → ¬ (before.gate ≡ gates.Suspended) → before.is_outvoted ≡ false → before.membership.joins ≡ false
      → HasResponded tapes before came response after → Continues tapes before after
  responded before came response after not agrees votes is =
      awake before after not agrees votes is.outvoted is.membership is.kept (answered before.process came response is.answers.outcome after.process is.answers.answer)
      (same_given before.process after.process is.answers.answer.given)

  pub stayed : (before after : Voter T tapes) → ¬ (before.gate ≡ gates.Suspended) → before.is_outvoted ≡ false → before.membership.joins ≡ false → (after ≡ before) ⊎ HasOnlyServed tapes before after → Continues tapes before after
  stayed before after not agrees votes (inl same) = same_voter before after same
  stayed before after not agrees votes (inr is) = awake before after not agrees votes is.outvoted is.membership is.kept is.process (same_given before.process after.process is.given)

  -- ---- while its folder is written to

  pub on_in : (stands : Stand) (before after : Voter T tapes) → Continues tapes before after → ContinuesIn tapes stands before stands after
  on_in stands before after on = record {
    process = on.process;
    suspended = on.suspended;
    outvoted = on.outvoted;
    asked = on.asked;
    membership = on.membership;
    learnt = on.learnt;
    starts = refl;
    begun = refl;
    kept = on.kept stands.heard;
  }

  pub still_in : (stands : Stand) (voter : Voter T tapes) → ContinuesIn tapes stands voter stands voter
  still_in stands voter = on_in stands voter voter (still voter)

  pub twice_in : (r s t : Stand) (one two three : Voter T tapes) → ContinuesIn tapes r one s two → ContinuesIn tapes s two t three → ContinuesIn tapes r one t three
  twice_in r s t one two three first second = record {
    process = goes_twice one.process two.process three.process first.process second.process;
    suspended = λ is. let a = first.suspended is in let b = second.suspended a.gate in record { gate = b.gate; actor = b.actor ∙ a.actor };
    outvoted = second.outvoted ∙ first.outvoted;
    asked = λ is. second.asked (first.outvoted ∙ is) ∙ first.asked is;
    membership = second.membership ∙ first.membership;
    learnt = λ is. learnt_twice one.process.actor two.process.actor three.process.actor (first.learnt is) (second.learnt (joins_on one.membership two.membership first.membership is));
    starts = second.starts ∙ first.starts;
    begun = second.begun ∙ first.begun;
    kept = λ is. second.kept (first.kept is);
  }

  -- then it goes on
  pub then_on : (r s : Stand) (one two three : Voter T tapes) → ContinuesIn tapes r one s two → Continues tapes two three → ContinuesIn tapes r one s three
  then_on r s one two three first second = twice_in r s s one two three first (on_in s two three second)

  -- another file was written, or wasn't, and the gate is set after that
  pub gated_in : (stood stands : Stand) (before after : Voter T tapes) → stands ≡ stood → Continues tapes before after → ContinuesIn tapes stood before stands after
  gated_in stood stands before after same on = subst (λ (s : Stand). ContinuesIn tapes stood before s after) (sym same) (on_in stood before after on)

  pub kept_in : (stood stands : Stand) (voter : Voter T tapes) → stands ≡ stood → ContinuesIn tapes stood voter stands voter
  kept_in stood stands voter same = gated_in stood stands voter voter same (still voter)

  -- the file `heard` is written
  pub wrote : (known : List (Option Heard)) (text : List ℕ) (stood stands : Stand) (before after : Voter T tapes) → HearAll before.kept known → text ≡ peer_progress_text known
      → stands ≡ with_heard text stood → after ≡ record before { kept = known } → ContinuesIn tapes stood before stands after
  wrote known text stood stands before after all is_text put now =
      let same : after.process ≡ before.process = ap (λ (v : Voter T tapes). v.process) now in
      let gate : after.gate ≡ before.gate = ap (λ (v : Voter T tapes). v.gate) now in
      record {
        process = unchanged before.process after.process same;
        suspended = λ is. record { gate = gate ∙ is; actor = ap (λ (p : Process T tapes). p.actor) same };
        outvoted = ap (λ (v : Voter T tapes). v.is_outvoted) now;
        asked = λ _. ap (λ (p : Process T tapes). besides_asks p.actor.given.items) same;
        membership = ap (λ (v : Voter T tapes). v.membership) now;
        learnt = λ _. learnt_same before.process.actor after.process.actor (ap (λ (p : Process T tapes). p.actor) same);
        starts = ap (λ (s : Stand). s.starts) put;
        begun = ap (λ (s : Stand). s.begun) put;
        kept = kept_more known text stood stands before after all is_text put (ap (λ (v : Voter T tapes). v.kept) now) same;
      }

  -- or it may be
  pub wrote_or_not : (known : List (Option Heard)) (text : List ℕ) (stood stands : Stand) (voter : Voter T tapes) → HearAll voter.kept known → text ≡ peer_progress_text known
      → (stands ≡ stood) ⊎ (stands ≡ with_heard text stood) → ContinuesIn tapes stood voter stands voter
  wrote_or_not known text stood stands voter all is_text put = record {
    process = goes_still voter.process;
    suspended = λ is. record { gate = is; actor = refl };
    outvoted = refl;
    asked = λ _. refl;
    membership = refl;
    learnt = λ _. learnt_same voter.process.actor voter.process.actor refl;
    starts = elim put [ inl same ↦ ap (λ (s : Stand). s.starts) same | inr is ↦ ap (λ (s : Stand). s.starts) is ];
    begun = elim put [ inl same ↦ ap (λ (s : Stand). s.begun) same | inr is ↦ ap (λ (s : Stand). s.begun) is ];
    kept = kept_either known text stood stands voter all is_text put;
  }

  -- ---- a turn: a decision, what is done, and what is kept

  pub turned : (s t : Stand) (one two three four : Voter T tapes) → two.process ≡ one.process → ContinuesIn tapes s two t three → four ≡ three → StaysInRun tapes one.process four.process
  turned s t one two three four decides does keeps =
      goes_twice one.process two.process four.process
      (unchanged one.process two.process decides)
      (goes_twice two.process three.process four.process does.process (unchanged three.process four.process (ap (λ (v : Voter T tapes). v.process) keeps)))

  pub turned_suspended : (s t : Stand) (one two three four : Voter T tapes) → two.process ≡ one.process → (one.gate ≡ gates.Suspended → two.gate ≡ gates.Suspended)
      → ContinuesIn tapes s two t three → four ≡ three → one.gate ≡ gates.Suspended → StaysSuspended one four
  turned_suspended s t one two three four decides stays does keeps is =
      let on = does.suspended (stays is) in
      record {
        gate = ap (λ (v : Voter T tapes). v.gate) keeps ∙ on.gate;
        actor = ap (λ (v : Voter T tapes). v.process.actor) keeps ∙ (on.actor ∙ ap (λ (p : Process T tapes). p.actor) decides);
      }

  outvoted_at : (s t : Stand) (two three four : Voter T tapes) → ContinuesIn tapes s two t three → four ≡ three → four.is_outvoted ≡ true → two.is_outvoted ≡ true
  outvoted_at s t two three four does keeps is = sym does.outvoted ∙ (sym (ap (λ (v : Voter T tapes). v.is_outvoted) keeps) ∙ is)

  pub turned_asked : (s t : Stand) (one two three four : Voter T tapes) → two.process ≡ one.process → ContinuesIn tapes s two t three → four ≡ three → four.is_outvoted ≡ true
      → besides_asks four.process.actor.given.items ≡ besides_asks one.process.actor.given.items
  turned_asked s t one two three four decides does keeps is =
      ap (λ (v : Voter T tapes). besides_asks v.process.actor.given.items) keeps
      ∙ (does.asked (outvoted_at s t two three four does keeps is) ∙ ap (λ (p : Process T tapes). besides_asks p.actor.given.items) decides)

  pub turned_membership : (s t : Stand) (one two three four : Voter T tapes) → two.membership ≡ one.membership → ContinuesIn tapes s two t three → four ≡ three → four.membership ≡ one.membership
  turned_membership s t one two three four decides does keeps = ap (λ (v : Voter T tapes). v.membership) keeps ∙ does.membership ∙ decides

  pub turned_learnt : (s t : Stand) (one two three four : Voter T tapes) → two.process ≡ one.process → two.membership ≡ one.membership → ContinuesIn tapes s two t three → four ≡ three → one.membership.joins ≡ true
      → HasLearnt tapes one.process.actor four.process.actor
  turned_learnt s t one two three four decides stays does keeps is =
      learnt_twice one.process.actor two.process.actor four.process.actor (learnt_same one.process.actor two.process.actor (ap (λ (p : Process T tapes). p.actor) decides))
      (learnt_twice two.process.actor three.process.actor four.process.actor (does.learnt (joins_on one.membership two.membership stays is))
      (learnt_same three.process.actor four.process.actor (ap (λ (v : Voter T tapes). v.process.actor) keeps)))

  -- of these clients, first to last, none was answered by one that joins
  pub turned_learning : (before now : Membership) (first second third fourth : List (Voter T tapes × ℕ)) → second ≡ first → now ≡ before → (now.joins ≡ true → third ≡ second)
      → fourth ≡ third → before.joins ≡ true → fourth ≡ first
  turned_learning before now first second third fourth decides stays does keeps is = keeps ∙ (does (joins_on before now stays is) ∙ decides)

  -- of these clients, first to last, as many were answered
  pub turned_unanswered : (s t : Stand) (two three four : Voter T tapes) (first second third fourth : List (Voter T tapes × ℕ))
      → second ≡ first → ContinuesIn tapes s two t three → (two.is_outvoted ≡ true → third ≡ second)
      → four ≡ three → fourth ≡ third → four.is_outvoted ≡ true → fourth ≡ first
  turned_unanswered s t two three four first second third fourth decides on does keeps keeps' is =
      keeps' ∙ (does (outvoted_at s t two three four on keeps is) ∙ decides)

  pub turned_heard : (s t u : Stand) (one two three four : Voter T tapes) → two.process ≡ one.process → two.kept ≡ one.kept → ContinuesIn tapes s two t three
      → four ≡ three → u ≡ t → IsHeardKept s.heard one → IsHeardKept u.heard four
  turned_heard s t u one two three four decides kept does keeps stands is =
      subst (λ (r : Stand). IsHeardKept r.heard four) (sym stands) (subst (λ (v : Voter T tapes). IsHeardKept t.heard v) (sym keeps) (does.kept (kept_as one two kept decides s.heard is)))

  -- ---- what is earlier stays so

  runs_on : (actor before now : Actor T tapes) (ended : List (Actor T tapes × ℕ)) → IsLater tapes before now → AreRunsFrom tapes actor ended before → AreRunsFrom tapes actor ended now
  runs_on actor before now [] later are = later_twice actor before now are later
  runs_on actor before now (run ∷ ended) later are = (are.0, are.1, are.2, runs_on are.1 before now ended later are.3)

  runs_more : (actor run next : Actor T tapes) (ended : List (Actor T tapes × ℕ)) → IsNextRun tapes run next → AreRunsFrom tapes actor ended run → AreRunsFrom tapes actor (ended ++ (run, 0) ∷ []) next
  runs_more actor run next [] follows are = (are, next, follows, later_same next next refl)
  runs_more actor run next (first ∷ ended) follows are = (are.0, are.1, are.2, runs_more are.1 run next ended follows are.3)

  runs_append : (actor middle now : Actor T tapes) (first second : List (Actor T tapes × ℕ)) → AreRunsFrom tapes actor first middle → AreRunsFrom tapes middle second now → AreRunsFrom tapes actor (first ++ second) now
  runs_append actor middle now [] [] are more = later_twice actor middle now are more
  runs_append actor middle now [] (run ∷ second) are more = (later_twice actor middle run.0 are more.0, more.1, more.2, more.3)
  runs_append actor middle now (run ∷ first) second are more = (are.0, are.1, are.2, runs_append are.1 middle now first second are.3 more)

  pub earlier_twice : (one two three : Process T tapes) → IsEarlier tapes one two → IsEarlier tapes two three → IsEarlier tapes one three
  earlier_twice one two three first second = record {
    since = first.since ++ second.since;
    ended = second.ended ∙ ap (λ (runs : List (Actor T tapes × ℕ)). runs ++ second.since) first.ended ∙ append_assoc one.ended.items first.since second.since;
    runs = runs_append one.actor two.actor three.actor first.since second.since first.runs second.runs;
  }

  earlier_on : (past before now : Process T tapes) → StaysInRun tapes before now → IsEarlier tapes past before → IsEarlier tapes past now
  earlier_on past before now goes is = record { since = is.since; ended = goes.ended ∙ is.ended; runs = runs_on past.actor before.actor now.actor is.since goes.actor is.runs }

  earlier_ended : (past before now : Process T tapes) → now.ended.items ≡ before.ended.items ++ (before.actor, 0) ∷ [] → IsNextRun tapes before.actor now.actor → IsEarlier tapes past before → IsEarlier tapes past now
  earlier_ended past before now ended follows is = record {
    since = is.since ++ (before.actor, 0) ∷ [];
    ended = ended ∙ ap (λ (runs : List (Actor T tapes × ℕ)). runs ++ (before.actor, 0) ∷ []) is.ended ∙ append_assoc past.ended.items is.since ((before.actor, 0) ∷ []);
    runs = runs_more past.actor before.actor now.actor is.since follows is.runs;
  }

  -- a node that was opened anew, and compared, is that of the run that follows
  pub follows_opened : (before next : Process T tapes) (tape : T) → IsOpened tapes tape before.actor.node.id before.n next.actor.node → HasStoredAs before.actor.node next.actor.node → IsJustOpened next
      → before.actor.node.halted ≡ true → IsNextRun tapes before.actor next.actor
  follows_opened before next tape opened stored begun halted = record {
    halted = halted;
    number = opened.number;
    among = opened.among ∙ sym before.among;
    stood = begun.stood;
    stored = stored;
  }

  pub keeps_going : (before after : Process T tapes) → StaysInRun tapes before after → KeepsEarlier tapes before after
  keeps_going before after goes = λ past earlier. earlier_on past before after goes earlier

  pub keeps_begun : (before after : Process T tapes) → after.ended.items ≡ before.ended.items ++ (before.actor, 0) ∷ [] → (before.actor.node.halted ≡ true → IsNextRun tapes before.actor after.actor)
      → before.actor.node.halted ≡ true → KeepsEarlier tapes before after
  keeps_begun before after ended follows halted = λ past earlier. earlier_ended past before after ended (follows halted) earlier

  pub keeps_same : (before after : Process T tapes) → after ≡ before → KeepsEarlier tapes before after
  keeps_same before after same = λ past earlier. subst (λ (p : Process T tapes). IsEarlier tapes past p) (sym same) earlier
