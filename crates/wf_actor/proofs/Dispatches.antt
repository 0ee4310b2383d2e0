-- What waits for a process's own node, and what is in the posts that wait, the node returned.
use Rattle.std.proofs.Common.{◌≡◌, ℕ, ◌≤◌, Bool, true, false, List, [], ◌∷◌, ◌++◌, length, take, Vec, refl, sym, ap, subst, ◌∙◌, inl, inr, append-nil, append_assoc}
use Rattle.std.proofs.Math.Logic.{∥∥₁_map₂}
use Rattle.std.specs.declared.alloc.Global.{Global}
use Rattle.wf_codec.specs.declared.message.Message as code
use Rattle.wf_mail.specs.Mail.{IsFirstPart}
use Rattle.wf_model.specs.Chosen.{IsIn}
use Rattle.wf_wire.specs.Post.{AreAmong, logged}
use Rattle.wf_wire.specs.declared.post.Post.{Post}
use Rattle.wf_wire.specs.declared.target.Target.{Target}
use Rattle.wf_actor.specs.Backlog.{most_messages, queued}
use Rattle.wf_actor.specs.Sent.{AreMadeOf, AreQueued, AreSent, IsPostOf}
use Rattle.wf_actor.proofs.Lists.{in_left, in_right, in_either, in_take, in_along}
use Rattle.wf_actor.proofs.Lives.{logged_grows}

-- ---- none

pub nothing_sent : (waiting : List code.Message) (posts : List Post) (emitted : List code.Message) → waiting ≡ [] → posts ≡ [] → AreSent waiting posts emitted
unfolding AreMadeOf
nothing_sent waiting posts emitted none no_posts = record {
  waits = λ m there. absurd (in_along m waiting [] none there);
  made = λ post there. absurd (in_along post posts [] no_posts there);
}

-- ---- a post

-- a copy of a log, with no messages behind it, has the same messages
pub logged_same : (log log' : List (Vec code.Message Global × ℕ)) (none : Vec code.Message Global) → none.items ≡ [] → log' ≡ log ++ (none, 0) ∷ [] → logged log' ≡ logged log
logged_same log log' none empty e = logged_grows log log' none e ∙ ap (λ (l : List code.Message). logged log ++ l) empty ∙ append-nil (logged log)

pub among_along : (messages all all' : List code.Message) → all' ≡ all → ∥ AreAmong messages all ∥₁ → ∥ AreAmong messages all' ∥₁
among_along messages all all' e are = subst (λ (l : List code.Message). ∥ AreAmong messages l ∥₁) (sym e) are

pub posted_none : (messages : List code.Message) (target : Target) (emitted : List code.Message) (posts : List Post) → messages ≡ [] → AreQueued messages target emitted posts posts
posted_none messages target emitted posts none = subst (λ (l : List code.Message). AreQueued l target emitted posts posts) (sym none) refl

pub posted_one : (messages : List code.Message) (target : Target) (emitted : List code.Message) (posts posts' : List Post) (post : Post) → (messages ≡ [] → ⊥) → IsPostOf messages target emitted post →
    posts' ≡ take most_messages (posts ++ post ∷ []) → AreQueued messages target emitted posts posts'
posted_one [] target emitted posts posts' post some is e = absurd (some refl)
posted_one (m ∷ messages) target emitted posts posts' post some is e = (post, is, e)

-- what was just returned is of all that was
pub outputs_among : (emitted outputs emitted' : List code.Message) → emitted' ≡ emitted ++ outputs → AreAmong outputs emitted'
outputs_among emitted outputs emitted' more = λ m there. in_along m (emitted ++ outputs) emitted' (sym more) (in_right m emitted outputs there)

module _ (waiting : List code.Message) (posts : List Post) (emitted : List code.Message) (sent : AreSent waiting posts emitted) where
  -- more was returned, and maybe posted
  made_on : (outputs : List code.Message) (target : Target) (posts' : List Post) → AreQueued outputs target (emitted ++ outputs) posts posts' → AreMadeOf posts' (emitted ++ outputs)
  unfolding AreMadeOf
  made_on [] target posts' same = λ post there.
      let was = sent.made post (in_along post posts' posts same there) in (was.0, was.1 ∙ sym (append-nil emitted))
  made_on (m ∷ outputs) target posts' (new, is, e) = λ post there.
      elim (in_either post posts (new ∷ []) (in_take most_messages post (posts ++ new ∷ []) (in_along post posts' (take most_messages (posts ++ new ∷ [])) e there))) [
        | inl a ↦ let was = sent.made post a in
            (was.0 ++ m ∷ outputs, sym (append_assoc (logged post.returned.items) was.0 (m ∷ outputs)) ∙ ap (λ (l : List code.Message). l ++ m ∷ outputs) was.1)
        | inr b ↦ elim b [
          | inl here ↦ ([], append-nil (logged post.returned.items) ∙ ap (λ (p : Post). logged p.returned.items) here ∙ is.returned)
          | inr none ↦ absurd none
        ]
      ]

  pub sent_on : (outputs : List code.Message) (target : Target) (posts' : List Post) (emitted' : List code.Message) → emitted' ≡ emitted ++ outputs → AreQueued outputs target emitted' posts posts' → AreSent waiting posts' emitted'
  sent_on outputs target posts' emitted' more posted =
      subst (λ (l : List code.Message). AreSent waiting posts' l) (sym more) (record {
        waits = λ m there. in_left m emitted outputs (sent.waits m there);
        made = made_on outputs target posts' (subst (λ (l : List code.Message). AreQueued outputs target l posts posts') more posted);
      })

  -- nothing more was returned
  pub sent_still : (emitted' : List code.Message) → emitted' ≡ emitted ++ [] → AreSent waiting posts emitted'
  sent_still emitted' same = subst (λ (l : List code.Message). AreSent waiting posts l) (sym (same ∙ append-nil emitted)) sent

  -- ---- fewer wait

  pub fewer_left : (front rest : List code.Message) → waiting ≡ front ++ rest → AreSent rest posts emitted
  fewer_left front rest e = record { waits = λ x there. sent.waits x (in_along x (front ++ rest) waiting (sym e) (in_right x front rest there)); made = sent.made }

  -- the first of them was returned
  pub first_reported : (m : code.Message) (rest : List code.Message) → waiting ≡ m ∷ rest → IsIn m emitted
  first_reported m rest e = sent.waits m (in_along m (m ∷ rest) waiting (sym e) (inl refl))

  -- the first posts are gone
  pub fewer_posts : (front rest : List Post) → posts ≡ front ++ rest → AreSent waiting rest emitted
  unfolding AreMadeOf
  fewer_posts front rest e = record { waits = sent.waits; made = λ post there. sent.made post (in_along post (front ++ rest) posts (sym e) (in_right post front rest there)) }

  -- the messages of the first of them wait for the node itself
  taken_over : (post : Post) (rest : List Post) (waiting' messages : List code.Message) → posts ≡ post ∷ rest → messages ≡ post.messages.items → waiting' ≡ take most_messages (waiting ++ messages) → AreAmong post.messages.items (logged post.returned.items) →
      AreSent waiting' rest emitted
  unfolding AreMadeOf
  taken_over post rest waiting' messages e same queue among = record {
    waits = λ m there. elim (in_either m waiting messages (in_take most_messages m (waiting ++ messages) (in_along m waiting' (take most_messages (waiting ++ messages)) queue there))) [
      | inl a ↦ sent.waits m a
      | inr b ↦
          let was = sent.made post (in_along post (post ∷ rest) posts (sym e) (inl refl)) in
          in_along m (logged post.returned.items ++ was.0) emitted was.1 (in_left m (logged post.returned.items) was.0 (among m (in_along m messages post.messages.items same b)))
    ];
    made = λ other there. sent.made other (in_along other (post ∷ rest) posts (sym e) (inr there));
  }

pub post_given : (waiting : List code.Message) (posts : List Post) (emitted : List code.Message) (post : Post) (rest : List Post) (waiting' messages : List code.Message) → posts ≡ post ∷ rest → messages ≡ post.messages.items →
    waiting' ≡ take most_messages (waiting ++ messages) → ∥ AreAmong post.messages.items (logged post.returned.items) ∥₁ → ∥ AreSent waiting posts emitted ∥₁ → ∥ AreSent waiting' rest emitted ∥₁
post_given waiting posts emitted post rest waiting' messages e same queue among sent = ∥∥₁_map₂ among sent (λ a s. taken_over waiting posts emitted s post rest waiting' messages e same queue a)
