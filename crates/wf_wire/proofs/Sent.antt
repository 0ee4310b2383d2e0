-- What was sent on a connection to a peer.
use Rattle.std.specs.Prelude.{Bool, IsTrue, ◌↔◌}
use Rattle.std.proofs.Common.{◌≡◌, ◌∙◌, ℕ, ◌<◌, ◌≤◌, List, [], ◌∷◌, ◌++◌, length, take, drop, map, refl, sym, ap, subst, append_assoc, append-nil, arith, length-append, Option, Some, None, inl, inr}
use Rattle.std.proofs.lemmas.List.{drop-drop, take-append-drop, take-append-le}
use Rattle.std.proofs.Math.Logic.{∥∥₁_map, ∥∥₁_map₂}
use Rattle.wf_client.specs.ResponseBuffer.{IsTakenUp, Outgoing, rest_of}
use Rattle.wf_codec.specs.Message.{view}
use Rattle.wf_codec.specs.declared.message.Message as code
use Rattle.wf_def.specs.Definition.{Definition}
use Rattle.wf_mail.specs.Mail.{AreMessages, spelled}
use Rattle.wf_mail.specs.Outbox.{IsAdvanced, OutboxState}
use Rattle.wf_model.specs.Chosen.{IsIn}
use Rattle.wf_model.specs.Message.{Message}
use Rattle.wf_peer.specs.Greeting.{IsGreeting, greeting_bytes}
use Rattle.wf_peer.specs.declared.greeting.Greeting.{Greeting}
use Rattle.wf_wire.specs.Offer.{AreOffered}
use Rattle.wf_wire.specs.Post.{AreAmong, logged}
use Rattle.wf_wire.specs.ToPeer.{AreReturned, IsGreetedFirst, IsGreetingOf, IsNewOutbox, IsSentAs, WasReturned, most_outbox_bytes, put_into, written_of}
use Rattle.wf_wire.specs.declared.post.Post.{Post}
use Rattle.wf_wire.proofs.Offers.{all_put, in_left, in_map, none_written, in_right}

-- ---- the greeting

-- nothing was sent yet
pub sent_nothing : (sent : List ℕ) (greeting : Outgoing) (outbox : Option OutboxState) → sent ≡ [] → greeting.done ≡ 0 → outbox ≡ None → sent ++ rest_of greeting ≡ greeting.bytes ++ written_of outbox
sent_nothing sent greeting outbox none fresh closed =
    ap (λ (s : List ℕ). s ++ rest_of greeting) none ∙ ap (λ (n : ℕ). drop n greeting.bytes) fresh ∙ sym (append-nil greeting.bytes) ∙ ap (λ (o : Option OutboxState). greeting.bytes ++ written_of o) (sym closed)

-- the next bytes of it were sent
pub sent_next : (sent sent' all : List ℕ) (count : ℕ) (greeting greeting' : Outgoing) → IsTakenUp count greeting greeting' → sent' ≡ sent ++ take count (rest_of greeting)
    → sent ++ rest_of greeting ≡ all → sent' ++ rest_of greeting' ≡ all
sent_next sent sent' all count greeting greeting' advanced more is =
    let rest : List ℕ = rest_of greeting in
    let left : rest_of greeting' ≡ drop count (drop greeting.done greeting.bytes) = ap rest_of advanced ∙ sym (drop-drop count greeting.done greeting.bytes) in
    ap (λ (s : List ℕ). s ++ rest_of greeting') more ∙ ap (λ (s : List ℕ). (sent ++ take count rest) ++ s) left ∙ append_assoc sent (take count rest) (drop count rest)
    ∙ ap (λ (s : List ℕ). sent ++ s) (take-append-drop count rest) ∙ is

-- and these with what is left are what was left before
pub greeting_left : (count : ℕ) (greeting greeting' : Outgoing) → IsTakenUp count greeting greeting' → take count (rest_of greeting) ++ rest_of greeting' ≡ rest_of greeting
greeting_left count greeting greeting' advanced =
    let rest : List ℕ = rest_of greeting in
    let left : rest_of greeting' ≡ drop count (drop greeting.done greeting.bytes) = ap rest_of advanced ∙ sym (drop-drop count greeting.done greeting.bytes) in
    ap (λ (s : List ℕ). take count rest ++ s) left ∙ take-append-drop count rest

pub same_bytes : (count : ℕ) (greeting greeting' : Outgoing) → IsTakenUp count greeting greeting' → greeting'.bytes ≡ greeting.bytes
same_bytes count greeting greeting' advanced = ap (λ (o : Outgoing). o.bytes) advanced

-- none was sent
pub sent_none : (sent sent' rest all : List ℕ) → sent' ≡ sent ++ [] → sent ++ rest ≡ all → sent' ++ rest ≡ all
sent_none sent sent' rest all none is = ap (λ (s : List ℕ). s ++ rest) (none ∙ append-nil sent) ∙ is

pub sent_same : (sent sent' rest all : List ℕ) → sent' ≡ sent → sent ++ rest ≡ all → sent' ++ rest ≡ all
sent_same sent sent' rest all same is = ap (λ (s : List ℕ). s ++ rest) same ∙ is

pub nothing_left : (greeting : Outgoing) → length (rest_of greeting) ≡ 0 → rest_of greeting ≡ []
nothing_left greeting none = empty (rest_of greeting) none
  where
    empty : (rest : List ℕ) → length rest ≡ 0 → rest ≡ []
    empty [] e = refl
    empty (byte ∷ rest) e = absurd (omega (arith, e))

-- all of it was sent where none of it is left
pub all_greeted : (b : Bool) (greeting : Outgoing) → IsTrue b ↔ (length (rest_of greeting) ≡ 0) → IsTrue b ↔ (rest_of greeting ≡ [])
all_greeted b greeting is = (λ yes. nothing_left greeting (is.0 yes), λ none. is.1 (ap length none))

-- none of it was taken yet
pub all_left : (greeting : Outgoing) (bytes : List ℕ) → greeting.bytes ≡ bytes → greeting.done ≡ 0 → rest_of greeting ≡ bytes
all_left greeting bytes are fresh = ap (λ (n : ℕ). drop n greeting.bytes) fresh ∙ are

-- none of it is left where an outbox is there
pub first_next : (count : ℕ) (outbox : Option OutboxState) (greeting greeting' : Outgoing) → IsTakenUp count greeting greeting' → count ≤ length (rest_of greeting) → 0 < count →
    IsGreetedFirst outbox (rest_of greeting) → IsGreetedFirst outbox (rest_of greeting')
first_next count outbox greeting greeting' advanced within some first there = absurd (omega (arith, within, some, ap length (first there)))

-- ---- the outbox

-- it is a new one
pub sent_opened : (sent : List ℕ) (greeting : Outgoing) (before after : Option OutboxState) → before ≡ None → written_of after ≡ [] → sent ++ rest_of greeting ≡ greeting.bytes ++ written_of before →
    sent ++ rest_of greeting ≡ greeting.bytes ++ written_of after
sent_opened sent greeting before after closed none is =
    is ∙ ap (λ (o : Option OutboxState). greeting.bytes ++ written_of o) closed ∙ ap (λ (s : List ℕ). greeting.bytes ++ s) (sym none)

-- messages were offered
pub sent_offered : (sent : List ℕ) (greeting : Outgoing) (messages : List (Message Definition)) (before after : Option OutboxState) → AreOffered messages before after →
    sent ++ rest_of greeting ≡ greeting.bytes ++ written_of before → sent ++ rest_of greeting ≡ greeting.bytes ++ written_of after
sent_offered sent greeting messages before after offered is = is ∙ ap (λ (s : List ℕ). greeting.bytes ++ s) (sym (none_written messages before after offered))

-- the next bytes that wait were written
pub written_next : (chunk rest : List ℕ) (count : ℕ) (front sent sent' : List ℕ) (before after : OutboxState) → chunk ++ rest ≡ before.waiting → count ≤ length chunk → IsAdvanced count before after →
    sent' ≡ sent ++ take count chunk → sent ≡ front ++ before.written → sent' ≡ front ++ after.written
written_next chunk rest count front sent sent' before after is within advanced more was =
    more ∙ ap (λ (s : List ℕ). s ++ take count chunk) was ∙ append_assoc front before.written (take count chunk)
    ∙ ap (λ (s : List ℕ). front ++ (before.written ++ s)) (sym (take-append-le count chunk rest within) ∙ ap (take count) is) ∙ ap (λ (s : List ℕ). front ++ s) (sym advanced.written)

-- they are the first of those that wait, and the others are left
pub chunk_front : (chunk rest waiting : List ℕ) (count : ℕ) → chunk ++ rest ≡ waiting → count ≤ length chunk → take count chunk ≡ take count waiting
chunk_front chunk rest waiting count is within = sym (take-append-le count chunk rest within) ∙ ap (take count) is

pub sent_chunk : (chunk rest waiting : List ℕ) (count : ℕ) (sent sent' : List ℕ) → chunk ++ rest ≡ waiting → count ≤ length chunk → sent' ≡ sent ++ take count chunk → sent' ≡ sent ++ take count waiting
sent_chunk chunk rest waiting count sent sent' is within more = more ∙ ap (λ (l : List ℕ). sent ++ l) (chunk_front chunk rest waiting count is within)

pub waiting_left : (count : ℕ) (before after : OutboxState) → IsAdvanced count before after → take count before.waiting ++ after.waiting ≡ before.waiting
waiting_left count before after advanced = ap (λ (l : List ℕ). take count before.waiting ++ l) advanced.waiting ∙ take-append-drop count before.waiting

-- a new outbox
pub new_outbox : (outbox : OutboxState) → outbox.put ≡ [] → outbox.written ≡ [] → outbox.waiting ≡ [] → outbox.limit ≡ most_outbox_bytes → IsNewOutbox outbox
new_outbox outbox put written waiting limit = record { put = put; written = written; waiting = waiting; limit = limit }

pub written_none : (front sent sent' written : List ℕ) → sent' ≡ sent ++ [] → sent ≡ front ++ written → sent' ≡ front ++ written
written_none front sent sent' written none was = none ∙ append-nil sent ∙ was

pub advance_within : (chunk rest waiting : List ℕ) (count : ℕ) → chunk ++ rest ≡ waiting → count ≤ length chunk → count ≤ length waiting
advance_within chunk rest waiting count is within = subst (λ (l : List ℕ). count ≤ length l) is (omega (arith, within, length_of chunk rest))
  where
    length_of : (a b : List ℕ) → length a ≤ length (a ++ b)
    length_of [] b = omega arith
    length_of (x ∷ a) b = omega (arith, length_of a b)

-- ---- what was posted

-- each message that was put in was returned
pub returned_nothing : (posts : List (Post × ℕ)) (outbox : Option OutboxState) → put_into outbox ≡ [] → ∥ AreReturned (put_into outbox) posts ∥₁
unfolding AreReturned
returned_nothing posts outbox none = ∣ (λ m there. absurd (subst (λ (l : List (Message Definition)). IsIn m l) none there)) ∣₁

pub returned_same : (posts : List (Post × ℕ)) (before after : Option OutboxState) → put_into after ≡ put_into before → ∥ AreReturned (put_into before) posts ∥₁ → ∥ AreReturned (put_into after) posts ∥₁
returned_same posts before after same are = subst (λ (l : List (Message Definition)). ∥ AreReturned l posts ∥₁) (sym same) are

returned_by : (posts posts' : List (Post × ℕ)) (post : Post) (before after : Option OutboxState) → posts' ≡ posts ++ (post, 0) ∷ [] → AreAmong post.messages.items (logged post.returned.items) →
    AreOffered (map view post.messages.items) before after → AreReturned (put_into before) posts → AreReturned (put_into after) posts'
unfolding AreReturned
returned_by posts posts' post before after one among offered are m there = elim (all_put (map view post.messages.items) before after offered m there) [
  | inl was ↦ later (are m was)
  | inr new ↦ record { post = post; number = 0; posted = subst (λ (l : List (Post × ℕ)). IsIn (post, 0) l) (sym one) (in_right (post, 0) posts ((post, 0) ∷ []) (inl refl)); returned = seen post.messages.items new among }
]
  where
    later : WasReturned posts m → WasReturned posts' m
    later was = record { post = was.post; number = was.number; posted = subst (λ (l : List (Post × ℕ)). IsIn (was.post, was.number) l) (sym one) (in_left (was.post, was.number) posts ((post, 0) ∷ []) was.posted); returned = was.returned }

    seen : (messages : List code.Message) → IsIn m (map view messages) → AreAmong messages (logged post.returned.items) → IsIn m (map view (logged post.returned.items))
    seen [] none all = absurd none
    seen (x ∷ messages) new all = elim new [
      | inl e ↦ subst (λ (y : Message Definition). IsIn y (map view (logged post.returned.items))) (sym e) (in_map view x (logged post.returned.items) (all x (inl refl)))
      | inr rest ↦ seen messages rest (λ y there. all y (inr there))
    ]

pub returned_more : (posts posts' : List (Post × ℕ)) (post : Post) (before after : Option OutboxState) → posts' ≡ posts ++ (post, 0) ∷ [] → ∥ AreAmong post.messages.items (logged post.returned.items) ∥₁ →
    AreOffered (map view post.messages.items) before after → ∥ AreReturned (put_into before) posts ∥₁ → ∥ AreReturned (put_into after) posts' ∥₁
returned_more posts posts' post before after one among offered are =
    ∥∥₁_map₂ among are (λ all a. returned_by posts posts' post before after one all offered a)

-- ---- all of it

sent_as : (sent : List ℕ) (greeting : Outgoing) (outbox : Option OutboxState) → IsGreetingOf greeting.bytes → sent ++ rest_of greeting ≡ greeting.bytes ++ written_of outbox → IsGreetedFirst outbox (rest_of greeting) →
    (more : List ℕ) → written_of outbox ++ more ≡ spelled (put_into outbox) → AreMessages (put_into outbox) → IsSentAs sent (put_into outbox)
sent_as sent greeting None greets is first more spells messages = record {
  own = greets.said;
  is_greeting = greets.is;
  messages = messages;
  begins = (
    rest_of greeting ++ more,
    sym (append_assoc sent (rest_of greeting) more) ∙ ap (λ (s : List ℕ). s ++ more) is ∙ append_assoc greeting.bytes [] more
        ∙ ap (λ (s : List ℕ). greeting.bytes ++ s) spells ∙ ap (λ (s : List ℕ). s ++ spelled []) greets.are,
  );
}
sent_as sent greeting (Some outbox) greets is first more spells messages = record {
  own = greets.said;
  is_greeting = greets.is;
  messages = messages;
  begins = (
    more,
    ap (λ (s : List ℕ). s ++ more) (sym (append-nil sent) ∙ ap (λ (s : List ℕ). sent ++ s) (sym (first refl)) ∙ is) ∙ append_assoc greeting.bytes outbox.written more
        ∙ ap (λ (s : List ℕ). greeting.bytes ++ s) spells ∙ ap (λ (s : List ℕ). s ++ spelled outbox.put) greets.are,
  );
}

pub all_sent : (sent : List ℕ) (greeting : Outgoing) (outbox : Option OutboxState) → ∥ IsGreetingOf greeting.bytes ∥₁ → sent ++ rest_of greeting ≡ greeting.bytes ++ written_of outbox → IsGreetedFirst outbox (rest_of greeting) →
    (more : List ℕ) → written_of outbox ++ more ≡ spelled (put_into outbox) → AreMessages (put_into outbox) → ∥ IsSentAs sent (put_into outbox) ∥₁
all_sent sent greeting outbox greets is first more spells messages = ∥∥₁_map greets (λ g. sent_as sent greeting outbox g is first more spells messages)

-- nothing was put into no outbox
pub none_spelled : (outbox : Option OutboxState) → outbox ≡ None → (written_of outbox ++ [] ≡ spelled (put_into outbox)) × AreMessages (put_into outbox)
unfolding spelled
none_spelled outbox none = subst (λ (o : Option OutboxState). (written_of o ++ [] ≡ spelled (put_into o)) × AreMessages (put_into o)) (sym none) (refl, tt)

-- ---- the bytes of a greeting

-- as long as one that they begin with
pub whole_greeting : (bytes : List ℕ) (g : Greeting) (rest : List ℕ) (length_of : ℕ) → IsGreeting g → bytes ≡ greeting_bytes g ++ rest → length_of ≡ length (greeting_bytes g) → length_of ≡ length bytes → IsGreetingOf bytes
whole_greeting bytes g rest length_of is e as_long all = record {
  said = g;
  is = is;
  are = e ∙ ap (λ (l : List ℕ). greeting_bytes g ++ l) (empty rest (omega (arith, ap length e, as_long, all, length-append (greeting_bytes g) rest))) ∙ append-nil (greeting_bytes g);
}
  where
    empty : (l : List ℕ) → length l ≡ 0 → l ≡ []
    empty [] none = refl
    empty (x ∷ l) none = absurd (omega (arith, none))
