-- The parts of bytes that are made of fronts of known lengths.
use Rattle.std.proofs.Common.{◌≡◌, ◌≢◌, ◌∙◌, ℕ, List, [], ◌∷◌, ◌++◌, Result, Ok, Err, length, take, drop, refl, ap, subst, append_assoc, arith}
use Rattle.std.proofs.Math.Seq.{take-append_seam}
use Rattle.std.proofs.Common.{◌<◌, ◌^◌, sym, get_or, length-append}
use Rattle.std.specs.Prelude.{Option, Some, None}
use Rattle.std.proofs.lemmas.List.{append_cancel_left, take-append-drop}
use Rattle.wf_ballot.specs.Ballot.{Ballot, IsBallot, ballot_bytes, round_bytes}
use Rattle.std.specs.Int.{w32, to_be_bytes, from_be_bytes}
use Rattle.std.proofs.lemmas.Nat.{be_bytes_4, from_be_bytes-to_be_bytes_4}
use Rattle.wf_ballot.specs.Sequence.{seq_bytes}
use Rattle.wf_folder.specs.Reach.{IsPromise, IsVote, IsVoteOrNone}
use Rattle.wf_folder.specs.declared.reach.HighestVote.{HighestVote}
use Rattle.wf_peer.specs.Greeting.{HasFixedParts, IsProgress, fixed_bytes, progress_bytes, promise_bytes, state_byte, vote_bytes}
use Rattle.wf_peer.specs.GreetingReply.{IsProgressOrNone, remembered_bytes}
use Rattle.wf_peer.specs.declared.fault.GreetingFault.{GreetingFault}
use Rattle.wf_peer.specs.declared.greeting.Greeting.{Greeting}
use Rattle.wf_peer.specs.declared.progress.Progress.{Progress}
use Rattle.wf_peer.proofs.Sizes.{length_of_farm, length_of_progress, length_of_promise, length_of_vote}

drop_all : (a b : List ℕ) → drop (length a) (a ++ b) ≡ b
drop_all [] b = refl
drop_all (x ∷ a) b = drop_all a b

-- the first n bytes, and those after them
pub take_front : (n : ℕ) (bytes a b : List ℕ) → length a ≡ n → bytes ≡ a ++ b → take n bytes ≡ a
take_front n bytes a b size e = ap (take n) e ∙ subst (λ (k : ℕ). take k (a ++ b) ≡ a) size (take-append_seam a b)

pub drop_front : (n : ℕ) (bytes a b : List ℕ) → length a ≡ n → bytes ≡ a ++ b → drop n bytes ≡ b
drop_front n bytes a b size e = ap (drop n) e ∙ subst (λ (k : ℕ). drop k (a ++ b) ≡ b) size (drop_all a b)

-- ---- numbers
pub four_again : (bytes : List ℕ) (n m : ℕ) → m ≡ from_be_bytes w32 bytes → n < 2 ^ 32 → bytes ≡ to_be_bytes w32 n → m ≡ n
four_again bytes n m is fits e = is ∙ ap (from_be_bytes w32) e ∙ from_be_bytes-to_be_bytes_4 n fits

pub four_bytes : (bytes : List ℕ) (m : ℕ) → length bytes ≡ 4 → ((i : ℕ) → get_or bytes i 0 < 256) → m ≡ from_be_bytes w32 bytes → bytes ≡ to_be_bytes w32 m
four_bytes bytes m size each is = sym (be_bytes_4 bytes m size each is)

-- ---- the parts, cut one after the other
pub progress_parts : (b r1 r2 r3 r4 r5 m s l r pr v pu : List ℕ) → m ≡ take 16 b → r1 ≡ drop 16 b → s ≡ take 4 r1 → r2 ≡ drop 4 r1 → l ≡ take 16 r2 → r3 ≡ drop 16 r2 → r ≡ take 4 r3 → r4 ≡ drop 4 r3 → pr ≡ take 5 r4 → r5 ≡ drop 5 r4 → v ≡ take 7 r5 → pu ≡ drop 7 r5 →
    (p : Progress) → IsProgress p → b ≡ progress_bytes p →
    (m ≡ p.mark) × (s ≡ to_be_bytes w32 p.starts) × (l ≡ p.life) × (r ≡ to_be_bytes w32 p.round) × (pr ≡ promise_bytes p.promise) × (v ≡ vote_bytes p.vote) × (pu ≡ seq_bytes p.published)
unfolding progress_bytes
progress_parts b r1 r2 r3 r4 r5 m s l r pr v pu em e1 es e2 el e3 er e4 ep e5 ev eu p is e =
    let a1 : r1 ≡ to_be_bytes w32 p.starts ++ (p.life ++ (to_be_bytes w32 p.round ++ (promise_bytes p.promise ++ (vote_bytes p.vote ++ seq_bytes p.published)))) = e1 ∙ drop_front 16 b p.mark _ is.mark e in
    let a2 : r2 ≡ p.life ++ (to_be_bytes w32 p.round ++ (promise_bytes p.promise ++ (vote_bytes p.vote ++ seq_bytes p.published))) = e2 ∙ drop_front 4 r1 (to_be_bytes w32 p.starts) _ refl a1 in
    let a3 : r3 ≡ to_be_bytes w32 p.round ++ (promise_bytes p.promise ++ (vote_bytes p.vote ++ seq_bytes p.published)) = e3 ∙ drop_front 16 r2 p.life _ is.life a2 in
    let a4 : r4 ≡ promise_bytes p.promise ++ (vote_bytes p.vote ++ seq_bytes p.published) = e4 ∙ drop_front 4 r3 (to_be_bytes w32 p.round) _ refl a3 in
    let a5 : r5 ≡ vote_bytes p.vote ++ seq_bytes p.published = e5 ∙ drop_front 5 r4 (promise_bytes p.promise) _ (length_of_promise p.promise) a4 in (
      em ∙ take_front 16 b p.mark _ is.mark e,
      es ∙ take_front 4 r1 (to_be_bytes w32 p.starts) _ refl a1,
      el ∙ take_front 16 r2 p.life _ is.life a2,
      er ∙ take_front 4 r3 (to_be_bytes w32 p.round) _ refl a3,
      ep ∙ take_front 5 r4 (promise_bytes p.promise) _ (length_of_promise p.promise) a4,
      ev ∙ take_front 7 r5 (vote_bytes p.vote) _ (length_of_vote p.vote) a5,
      eu ∙ drop_front 7 r5 (vote_bytes p.vote) _ (length_of_vote p.vote) a5,
    )

joined : (n : ℕ) (l x y : List ℕ) → x ≡ take n l → y ≡ drop n l → l ≡ x ++ y
joined n l x y ex ey = sym (take-append-drop n l) ∙ ap (λ (f : List ℕ). f ++ drop n l) (sym ex) ∙ ap (λ (t : List ℕ). x ++ t) (sym ey)

pub progress_whole : (b r1 r2 r3 r4 r5 m s l r pr v pu : List ℕ) → m ≡ take 16 b → r1 ≡ drop 16 b → s ≡ take 4 r1 → r2 ≡ drop 4 r1 → l ≡ take 16 r2 → r3 ≡ drop 16 r2 → r ≡ take 4 r3 → r4 ≡ drop 4 r3 → pr ≡ take 5 r4 → r5 ≡ drop 5 r4 → v ≡ take 7 r5 → pu ≡ drop 7 r5 →
    (p : Progress) → p.mark ≡ m → s ≡ to_be_bytes w32 p.starts → p.life ≡ l → r ≡ to_be_bytes w32 p.round → pr ≡ promise_bytes p.promise → v ≡ vote_bytes p.vote → pu ≡ seq_bytes p.published → b ≡ progress_bytes p
unfolding progress_bytes
progress_whole b r1 r2 r3 r4 r5 m s l r pr v pu em e1 es e2 el e3 er e4 ep e5 ev eu p mark starts life round promise vote published =
    joined 16 b m r1 em e1 ∙ ap (λ (t : List ℕ). m ++ t) (joined 4 r1 s r2 es e2) ∙ ap (λ (t : List ℕ). m ++ (s ++ t)) (joined 16 r2 l r3 el e3) ∙ ap (λ (t : List ℕ). m ++ (s ++ (l ++ t))) (joined 4 r3 r r4 er e4)
    ∙ ap (λ (t : List ℕ). m ++ (s ++ (l ++ (r ++ t)))) (joined 5 r4 pr r5 ep e5) ∙ ap (λ (t : List ℕ). m ++ (s ++ (l ++ (r ++ (pr ++ t))))) (joined 7 r5 v pu ev eu)
    ∙ ap (λ (x : List ℕ). x ++ (s ++ (l ++ (r ++ (pr ++ (v ++ pu)))))) (sym mark)
    ∙ ap (λ (x : List ℕ). p.mark ++ (x ++ (l ++ (r ++ (pr ++ (v ++ pu)))))) starts
    ∙ ap (λ (x : List ℕ). p.mark ++ (to_be_bytes w32 p.starts ++ (x ++ (r ++ (pr ++ (v ++ pu)))))) (sym life)
    ∙ ap (λ (x : List ℕ). p.mark ++ (to_be_bytes w32 p.starts ++ (p.life ++ (x ++ (pr ++ (v ++ pu)))))) round
    ∙ ap (λ (x : List ℕ). p.mark ++ (to_be_bytes w32 p.starts ++ (p.life ++ (to_be_bytes w32 p.round ++ (x ++ (v ++ pu)))))) promise
    ∙ ap (λ (x : List ℕ). p.mark ++ (to_be_bytes w32 p.starts ++ (p.life ++ (to_be_bytes w32 p.round ++ (promise_bytes p.promise ++ (x ++ pu)))))) vote
    ∙ ap (λ (x : List ℕ). p.mark ++ (to_be_bytes w32 p.starts ++ (p.life ++ (to_be_bytes w32 p.round ++ (promise_bytes p.promise ++ (vote_bytes p.vote ++ x)))))) published

pub fixed_parts : (b r1 r2 r3 f n pr d s : List ℕ) → f ≡ take 32 b → r1 ≡ drop 32 b → n ≡ take 2 r1 → r2 ≡ drop 2 r1 → pr ≡ take 54 r2 → r3 ≡ drop 54 r2 → d ≡ take 32 r3 → s ≡ drop 32 r3 →
    (g : Greeting) → HasFixedParts g → b ≡ fixed_bytes g → (f ≡ g.farm) × (n ≡ g.nodes ∷ g.node ∷ []) × (pr ≡ progress_bytes g.progress) × (d ≡ g.digest) × (s ≡ state_byte g.state ∷ [])
unfolding fixed_bytes
fixed_parts b r1 r2 r3 f n pr d s ef e1 en e2 ep e3 ed es g is e =
    let a1 : r1 ≡ (g.nodes ∷ g.node ∷ []) ++ (progress_bytes g.progress ++ (g.digest ++ (state_byte g.state ∷ []))) = e1 ∙ drop_front 32 b g.farm _ (length_of_farm g.farm is.farm) e in
    let a2 : r2 ≡ progress_bytes g.progress ++ (g.digest ++ (state_byte g.state ∷ [])) = e2 ∙ drop_front 2 r1 (g.nodes ∷ g.node ∷ []) _ refl a1 in
    let a3 : r3 ≡ g.digest ++ (state_byte g.state ∷ []) = e3 ∙ drop_front 54 r2 (progress_bytes g.progress) _ (length_of_progress g.progress is.progress) a2 in (
      ef ∙ take_front 32 b g.farm _ (length_of_farm g.farm is.farm) e,
      en ∙ take_front 2 r1 (g.nodes ∷ g.node ∷ []) _ refl a1,
      ep ∙ take_front 54 r2 (progress_bytes g.progress) _ (length_of_progress g.progress is.progress) a2,
      ed ∙ take_front 32 r3 g.digest _ is.digest a3,
      es ∙ drop_front 32 r3 g.digest _ is.digest a3,
    )

two : (n : List ℕ) → length n ≡ 2 → n ≡ get_or n 0 0 ∷ get_or n 1 0 ∷ []
two [] size = absurd (omega (arith, size))
two (x ∷ []) size = absurd (omega (arith, size))
two (x ∷ y ∷ []) size = refl
two (x ∷ y ∷ z ∷ n) size = absurd (omega (arith, size))

pub one : (n : List ℕ) → length n ≡ 1 → n ≡ get_or n 0 0 ∷ []
one [] size = absurd (omega (arith, size))
one (x ∷ []) size = refl
one (x ∷ y ∷ n) size = absurd (omega (arith, size))

pub fixed_whole : (b r1 r2 r3 f n pr d s : List ℕ) → f ≡ take 32 b → r1 ≡ drop 32 b → n ≡ take 2 r1 → r2 ≡ drop 2 r1 → pr ≡ take 54 r2 → r3 ≡ drop 54 r2 → d ≡ take 32 r3 → s ≡ drop 32 r3 → length n ≡ 2 →
    (g : Greeting) → g.farm ≡ f → g.nodes ≡ get_or n 0 0 → g.node ≡ get_or n 1 0 → pr ≡ progress_bytes g.progress → g.digest ≡ d → s ≡ state_byte g.state ∷ [] → b ≡ fixed_bytes g
unfolding fixed_bytes
fixed_whole b r1 r2 r3 f n pr d s ef e1 en e2 ep e3 ed es size g farm nodes node progress digest state =
    joined 32 b f r1 ef e1 ∙ ap (λ (t : List ℕ). f ++ t) (joined 2 r1 n r2 en e2) ∙ ap (λ (t : List ℕ). f ++ (n ++ t)) (joined 54 r2 pr r3 ep e3) ∙ ap (λ (t : List ℕ). f ++ (n ++ (pr ++ t))) (joined 32 r3 d s ed es)
    ∙ ap (λ (x : List ℕ). x ++ (n ++ (pr ++ (d ++ s)))) (sym farm)
    ∙ ap (λ (x : List ℕ). g.farm ++ (x ++ (pr ++ (d ++ s)))) (two n size)
    ∙ ap (λ (x : ℕ). g.farm ++ ((x ∷ get_or n 1 0 ∷ []) ++ (pr ++ (d ++ s)))) (sym nodes)
    ∙ ap (λ (x : ℕ). g.farm ++ ((g.nodes ∷ x ∷ []) ++ (pr ++ (d ++ s)))) (sym node)
    ∙ ap (λ (x : List ℕ). g.farm ++ ((g.nodes ∷ g.node ∷ []) ++ (x ++ (d ++ s)))) progress
    ∙ ap (λ (x : List ℕ). g.farm ++ ((g.nodes ∷ g.node ∷ []) ++ (progress_bytes g.progress ++ (x ++ s)))) (sym digest)
    ∙ ap (λ (x : List ℕ). g.farm ++ ((g.nodes ∷ g.node ∷ []) ++ (progress_bytes g.progress ++ (g.digest ++ x)))) state

pub length_of_fixed : (g : Greeting) → HasFixedParts g → length (fixed_bytes g) ≡ 121
unfolding fixed_bytes
length_of_fixed g is =
    let end = state_byte g.state ∷ [] in
    omega (
      arith,
      length-append g.farm ((g.nodes ∷ g.node ∷ []) ++ (progress_bytes g.progress ++ (g.digest ++ end))),
      length-append (progress_bytes g.progress) (g.digest ++ end),
      length-append g.digest end,
      length_of_farm g.farm is.farm,
      length_of_progress g.progress is.progress,
      is.digest,
    )

-- ---- a vote

pub vote_parts : (bytes a b : List ℕ) → a ≡ take 5 bytes → b ≡ drop 5 bytes → (v : HighestVote) → bytes ≡ vote_bytes (Some v) → (a ≡ ballot_bytes v.ballot) × (b ≡ seq_bytes v.sequence)
vote_parts bytes a b ea eb v e =
    (ea ∙ take_front 5 bytes (ballot_bytes v.ballot) (seq_bytes v.sequence) (length_of_promise (Some v.ballot)) e, eb ∙ drop_front 5 bytes (ballot_bytes v.ballot) (seq_bytes v.sequence) (length_of_promise (Some v.ballot)) e)

pub vote_whole : (bytes a b : List ℕ) → a ≡ take 5 bytes → b ≡ drop 5 bytes → (v : HighestVote) → a ≡ ballot_bytes v.ballot → b ≡ seq_bytes v.sequence → bytes ≡ vote_bytes (Some v)
vote_whole bytes a b ea eb v ballot sequence =
    joined 5 bytes a b ea eb ∙ ap (λ (x : List ℕ). x ++ b) ballot ∙ ap (λ (x : List ℕ). ballot_bytes v.ballot ++ x) sequence

pub same_vote : (a b : HighestVote) → a.ballot ≡ b.ballot → a.sequence ≡ b.sequence → a ≡ b
same_vote a b ballot sequence =
    let made : Ballot → ℕ → HighestVote = λ x s. record { ballot = x; sequence = s } in
    ap (λ (x : Ballot). made x a.sequence) ballot ∙ ap (λ (s : ℕ). made b.ballot s) sequence

-- ---- a promise
no_zero_ballot : (b : Ballot) → IsBallot b → 0 ∷ 0 ∷ 0 ∷ 0 ∷ 0 ∷ [] ≡ ballot_bytes b → ⊥
unfolding ballot_bytes round_bytes
no_zero_ballot b is e =
    let four : 0 ∷ 0 ∷ 0 ∷ 0 ∷ [] ≡ to_be_bytes w32 b.round = ap (λ (l : List ℕ). take {A = ℕ} 4 l) e in
    let zero : 0 ≡ from_be_bytes w32 (to_be_bytes w32 b.round) = ap (from_be_bytes w32) four in
    omega (arith, zero, from_be_bytes-to_be_bytes_4 b.round (omega (arith, is.to_last)), is.from_one)

pub only_none : (p : Option Ballot) → IsPromise p → 0 ∷ 0 ∷ 0 ∷ 0 ∷ 0 ∷ [] ≡ promise_bytes p → ◌≡◌ {A = Option (Option Ballot)} (Some None) (Some p)
only_none None is e = refl
only_none (Some b) is e = absurd (no_zero_ballot b is e)

no_zero_vote : (v : HighestVote) → IsVote v → 0 ∷ 0 ∷ 0 ∷ 0 ∷ 0 ∷ 0 ∷ 0 ∷ [] ≡ vote_bytes (Some v) → ⊥
no_zero_vote v is e =
    let five : 0 ∷ 0 ∷ 0 ∷ 0 ∷ 0 ∷ [] ≡ ballot_bytes v.ballot = take_front 5 (0 ∷ 0 ∷ 0 ∷ 0 ∷ 0 ∷ 0 ∷ 0 ∷ []) (ballot_bytes v.ballot) (seq_bytes v.sequence) (length_of_promise (Some v.ballot)) e in
    no_zero_ballot v.ballot is.of_ballot five

pub only_no_vote : (v : Option HighestVote) → IsVoteOrNone v → 0 ∷ 0 ∷ 0 ∷ 0 ∷ 0 ∷ 0 ∷ 0 ∷ [] ≡ vote_bytes v → ◌≡◌ {A = Option (Option HighestVote)} (Some None) (Some v)
only_no_vote None is e = refl
only_no_vote (Some v) is e = absurd (no_zero_vote v is e)

-- ---- what is appended in two pieces
pub two_pieces : (t0 t1 t2 a b : List ℕ) → t1 ≡ t0 ++ a → t2 ≡ t1 ++ b → t2 ≡ t0 ++ (a ++ b)
two_pieces t0 t1 t2 a b e1 e2 = e2 ∙ ap (λ (l : List ℕ). l ++ b) e1 ∙ append_assoc t0 a b

-- ---- beginnings

-- of bytes that begin so, those that don't go as far as a front end within it
pub within_front : (bytes more front rest : List ℕ) → bytes ++ more ≡ front ++ rest → ((r : List ℕ) → bytes ≢ front ++ r) → length bytes < length front
within_front bytes more [] rest e none = absurd (none bytes refl)
within_front [] more (x ∷ front) rest e none = omega arith
within_front (y ∷ bytes) more (x ∷ front) rest e none =
    let head : y ≡ x = ap (λ (l : List ℕ). get_or l 0 0) e in
    let tail : bytes ++ more ≡ front ++ rest = ap (λ (l : List ℕ). drop 1 l) e in
    let shorter = within_front bytes more front rest tail (λ r same. none r (ap (λ (l : List ℕ). y ∷ l) same ∙ ap (λ (n : ℕ). n ∷ (front ++ r)) head)) in
    omega (arith, shorter)

-- what follows a front
pub behind_front : (bytes r more front rest : List ℕ) → bytes ≡ front ++ r → bytes ++ more ≡ front ++ rest → r ++ more ≡ rest
behind_front bytes r more front rest is e =
    append_cancel_left front (r ++ more) rest (sym (append_assoc front r more) ∙ ap (λ (l : List ℕ). l ++ more) (sym is) ∙ e)

-- bytes that are less than all
pub less_than_all : (bytes more all : List ℕ) → 0 < length more → bytes ++ more ≡ all → length bytes < length all
less_than_all bytes more all some e = omega (arith, some, ap length e, length-append bytes more)

-- ---- a beginning of what is remembered

pub nothing_after_zero : (bytes more : List ℕ) (p : Option Progress) → 0 < length more → 0 ∷ (bytes ++ more) ≡ remembered_bytes p → ⊥
nothing_after_zero bytes more None some e = omega (arith, some, ap length e, length-append bytes more)
nothing_after_zero bytes more (Some p) some e =
    let first : 0 ≡ 1 = ap (λ (l : List ℕ). get_or l 0 0) e in
    omega (arith, first)

pub few_after_one : (bytes more : List ℕ) (p : Option Progress) → IsProgressOrNone p → 0 < length more → 1 ∷ (bytes ++ more) ≡ remembered_bytes p → length bytes < 54
few_after_one bytes more None is some e =
    let first : 1 ≡ 0 = ap (λ (l : List ℕ). get_or l 0 0) e in
    absurd (omega (arith, first))
few_after_one bytes more (Some p) is some e =
    let tail : bytes ++ more ≡ progress_bytes p = ap (λ (l : List ℕ). drop 1 l) e in
    omega (arith, less_than_all bytes more (progress_bytes p) some tail, length_of_progress p is)

-- ---- an error that is handed on
pub handed_on : {T U : Type 0} (f g : GreetingFault) → ◌≡◌ {A = Result T GreetingFault} (Err f) (Err g) → ◌≡◌ {A = Result U GreetingFault} (Err f) (Err g)
handed_on f g e = cc

pub error_of_exit : {T U : Type 0} (r : Result U GreetingFault) (y f g : GreetingFault) → r ≡ Err y → y ≡ f → ◌≡◌ {A = Result T GreetingFault} (Err f) (Err g) → r ≡ Err g
error_of_exit r y f g is same e = cc

pub no_error : {T : Type 0} (x : T) (f : GreetingFault) → ◌≡◌ {A = Result T GreetingFault} (Ok x) (Err f) → ⊥
no_error x f e = cc
