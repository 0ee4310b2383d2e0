-- A pipe stays one: over bytes that are written, and over bytes that are read.
use Rattle.std.proofs.Common.{◌≡◌, ◌∙◌, ℕ, ◌+◌, ◌-◌, ◌≤◌, List, [], ◌++◌, length, sym, ap, append_assoc, length-append, arith}
use Rattle.wf_simulation.specs.Pipe.{IsFrontOf, IsPipe}

pub new_pipe : (sent came waiting : List ℕ) (limit : ℕ) → sent ≡ [] → came ≡ [] → waiting ≡ [] → IsPipe sent came waiting limit
new_pipe sent came waiting limit no_sent no_came no_waiting = record {
  order = ap (λ bytes. bytes ++ waiting) no_came ∙ no_waiting ∙ sym no_sent;
  bounded = omega (arith, ap length no_waiting);
}

pub written : (sent came waiting taken sent' waiting' : List ℕ) (limit : ℕ) → IsPipe sent came waiting limit → sent' ≡ sent ++ taken → waiting' ≡ waiting ++ taken
    → length taken ≤ limit - length waiting → IsPipe sent' came waiting' limit
written sent came waiting taken sent' waiting' limit is more waits room = record {
  order = ap (λ bytes. came ++ bytes) waits ∙ sym (append_assoc came waiting taken) ∙ ap (λ bytes. bytes ++ taken) is.order ∙ sym more;
  bounded = omega (arith, is.bounded, room, ap length waits, length-append waiting taken);
}

pub was_read : (sent came waiting piece came' waiting' : List ℕ) (limit : ℕ) → IsPipe sent came waiting limit → waiting ≡ piece ++ waiting' → came' ≡ came ++ piece
    → IsPipe sent came' waiting' limit
was_read sent came waiting piece came' waiting' limit is front more = record {
  order = ap (λ bytes. bytes ++ waiting') more ∙ append_assoc came piece waiting' ∙ ap (λ bytes. came ++ bytes) (sym front) ∙ is.order;
  bounded = omega (arith, is.bounded, ap length front, length-append piece waiting');
}

pub carries : (sent came waiting : List ℕ) (limit : ℕ) → IsPipe sent came waiting limit → IsFrontOf came sent
carries sent came waiting limit is = (waiting, is.order)
