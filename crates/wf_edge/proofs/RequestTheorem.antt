-- From a head and a body that were read to the request that the input begins with.
use Rattle.std.proofs.Common.{◌≡◌, ◌∙◌, ◌-◌, ℕ, List, [], ◌∷◌, ◌++◌, length, sym, ap, subst, arith, inl, inr}
use Rattle.std.specs.Prelude.{Option, Some, None, Ok, Err, IfSome}
use Rattle.std.specs.Io.KnownBytes.{Consumes}
use Rattle.std.proofs.lemmas.Bool.{cases_lt}
use Rattle.std.proofs.lemmas.List.{append-nil, append_assoc, length-append}
use Rattle.httparse.specs.Grammar.{print_request}
use Rattle.wf_http.specs.Head.{Head, Begins}
use Rattle.wf_edge.specs.Route.{resolved}
use Rattle.wf_stream.specs.KnownTheorems.{consumes_more}
use Rattle.wf_stream.specs.Effects.{TakesUpTo}
use Rattle.wf_http.specs.Body.{IsRequestBody, IsBodyFault}
use Rattle.wf_http.specs.Front.{Front, TakesFront, TakesHead, IsHeadFault}
use Rattle.wf_edge.specs.Request.{TakesRequest, IsRequestFault, by_head, by_check, by_body, BeginsWith, body_bytes}
use Rattle.wf_http.specs.declared.http_error.HttpError.{HttpError}
use Rattle.wf_edge.specs.declared.resource.RequestedResource.{RequestedResource}
use Rattle.wf_http.specs.declared.fault.RequestFault.{RequestFault}
use Rattle.wf_http.specs.declared.fault.RequestFault.TheVariants as fault

-- whatever bytes follow, the head is at the front
begins_more : (bytes rest more : List ℕ) (head : Head) → Begins bytes head rest → Begins (bytes ++ more) head (rest ++ more)
begins_more bytes rest more head begins = record {
  printed = begins.printed;
  reads = (begins.reads.0, ap (λ xs. xs ++ more) begins.reads.1 ∙ append_assoc (print_request begins.printed) rest more);
  small = begins.small;
  is = begins.is;
}

-- the input begins with the head that was taken from its front
input_begins : (start old : Option (List ℕ)) (front : Front) (P Q : List ℕ → Type 0) → TakesFront start old front → IfSome old Q
    → ((input left : List ℕ) → Begins input front.head (front.behind ++ left) → Q left → P input) → IfSome start P
input_begins None old front P Q taken left all = tt
input_begins (Some input) None front P Q (bytes, taken, begins) left all = absurd taken
input_begins (Some input) (Some left) front P Q (bytes, taken, begins) held all =
    all input left (subst (λ xs. Begins xs front.head (front.behind ++ left)) (sym taken) (begins_more bytes front.behind left front.head begins)) held

any_left : (old : Option (List ℕ)) → IfSome old (λ _. Unit {0})
any_left None = tt
any_left (Some left) = tt

pub head_failed : (start : Option (List ℕ)) (why : RequestFault) → IfSome start (λ input. IsHeadFault input why) → IfSome start (λ input. IsRequestFault input why)
head_failed None why failed = tt
head_failed (Some input) fault.NoRequest failed = failed
head_failed (Some input) fault.ReadFailed failed = failed
head_failed (Some input) fault.Memory failed = absurd failed
head_failed (Some input) (fault.Rejected r) failed = by_head failed.0 failed.1

pub check_failed : (start old : Option (List ℕ)) (front : Front) (r : HttpError) → TakesFront start old front → Err r ≡ resolved front.head
    → IfSome start (λ input. IsRequestFault input (fault.Rejected r))
check_failed start old front r taken fails =
    input_begins start old front (λ input. IsRequestFault input (fault.Rejected r)) (λ _. Unit {0}) taken (any_left old)
    (λ input left begins held. by_check (record { head = front.head; rest = front.behind ++ left; begins = begins; fails = sym fails }))

body_fault : (input rest : List ℕ) (head : Head) (asked : RequestedResource) (why : RequestFault) → Begins input head rest → resolved head ≡ Ok asked
    → IsBodyFault rest (body_bytes asked) why → IsRequestFault input why
body_fault input rest head asked fault.NoRequest begins asks failed = absurd failed
body_fault input rest head asked fault.ReadFailed begins asks failed = tt
body_fault input rest head asked fault.Memory begins asks failed =
    record { head = head; rest = rest; begins = begins; asked = asked; asks = asks; some = failed }
body_fault input rest head asked (fault.Rejected r) begins asks failed =
    by_body (record { head = head; rest = rest; begins = begins; asked = asked; asks = asks; short = failed.1; is = failed.0 })

pub body_failed : (start old : Option (List ℕ)) (front : Front) (asked : RequestedResource) (bytes : ℕ) (behind : List ℕ) (why : RequestFault) → TakesFront start old front
    → Ok asked ≡ resolved front.head → bytes ≡ body_bytes asked → behind ≡ front.behind → IfSome old (λ left. IsBodyFault (behind ++ left) bytes why)
    → IfSome start (λ input. IsRequestFault input why)
body_failed start old front asked bytes behind why taken asks count same failed =
    input_begins start old front (λ input. IsRequestFault input why) (λ left. IsBodyFault (behind ++ left) bytes why) taken failed
    (λ input left begins held. body_fault input (front.behind ++ left) front.head asked why begins (sym asks)
    (subst (λ n. IsBodyFault (front.behind ++ left) n why) count (subst (λ b. IsBodyFault (b ++ left) bytes why) same held)))

pub request_read : (start old : Option (List ℕ)) (front : Front) (asked : RequestedResource) (bytes : ℕ) (body : List ℕ) → TakesFront start old front
    → Ok asked ≡ resolved front.head → bytes ≡ body_bytes asked → IfSome old (λ left. IsRequestBody (front.behind ++ left) bytes body)
    → IfSome start (λ input. BeginsWith input (record { head = front.head; asked = asked; body = body }))
request_read start old front asked bytes body taken asks count held =
    input_begins start old front (λ input. BeginsWith input (record { head = front.head; asked = asked; body = body }))
    (λ left. IsRequestBody (front.behind ++ left) bytes body) taken held
    (λ input left begins here. record {
      rest = front.behind ++ left;
      head = begins;
      asks = sym asks;
      body = subst (λ n. IsRequestBody (front.behind ++ left) n body) count here;
    })

-- ---- how much is taken

-- nothing more was taken
taken_same : (a b c : Option (List ℕ)) (bytes rest : List ℕ) → length rest ≡ 0 → Consumes a b bytes → Consumes b c rest → Consumes a c bytes
taken_same a b c bytes [] none first second = subst (λ xs. Consumes a c xs) (append-nil bytes) (consumes_more a b c bytes [] first second)
taken_same a b c bytes (byte ∷ rest) none first second = absurd (omega arith)

-- no more was taken after a head than is missing of its body
pub request_taken : (piece : Option ℕ) (start old new : Option (List ℕ)) (front : Front) (asked : RequestedResource) (bytes : ℕ) (behind : List ℕ) → TakesHead piece start old
    → TakesFront start old front → Ok asked ≡ resolved front.head → bytes ≡ body_bytes asked → behind ≡ front.behind → TakesUpTo (bytes - length behind) old new
    → TakesRequest piece start new
request_taken piece start old new front asked bytes behind looked (read, taken, begins) asks count same (rest, short, more) =
    let size : length behind ≡ length front.behind = ap length same in
    elim (cases_lt (length front.behind) (body_bytes asked)) [
      | inl part ↦ inr (record {
        bytes = read ++ rest;
        head = front.head;
        behind = front.behind ++ rest;
        asked = asked;
        begins = begins_more read front.behind rest front.head begins;
        asks = sym asks;
        most = rw (length-append front.behind rest) (omega arith);
        taken = consumes_more start old new read rest taken more;
      })
      | inr all ↦ inl (record {
        before = looked.before;
        last = looked.last;
        unfinished = looked.unfinished;
        most = looked.most;
        small = looked.small;
        taken = taken_same start old new (looked.before ++ looked.last) rest (omega arith) looked.taken more;
      })
    ]
