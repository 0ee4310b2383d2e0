-- The entries of a farm as a list of nodes: each at its index, also after one is set; and what
-- stays of them.
use Rattle.std.proofs.Common.{◌≡◌, ℕ, zero, suc, ◌+◌, ◌<◌, List, [], ◌∷◌, ◌++◌, length, slice_get, slice_set, Some, refl, sym, ap, subst, ◌∙◌, arith, inl, inr, length-set}
use Rattle.wf_farm.specs.Common.{cases_eq, none-some, same_Some, slice_get_within, Node}
use Rattle.wf_farm.specs.declared.cluster.NodeHost.{NodeHost}
use Rattle.wf_farm.specs.declared.cluster.NodeHost.TheVariants.{Running, Stopped}
use Rattle.wf_farm.specs.Nodes.{AllRun, KeepHosts, KeepsHost, RunsAt, node_in, nodes_from, nodes_of}
use Rattle.wf_delivery.specs.IndexTheorems.{get_set_other, set_there}

-- ---- the entries as nodes

module _ {T : Type 0} (n : ℕ) where
  pub long_from : (i : ℕ) (hosts : List (NodeHost T)) → length (nodes_from n i hosts) ≡ length hosts
  unfolding nodes_from
  long_from i [] = refl
  long_from i (host ∷ hosts) = ap suc (long_from (suc i) hosts)

  get_from : (i k : ℕ) (hosts : List (NodeHost T)) (host : NodeHost T) → slice_get hosts k ≡ Some host → slice_get (nodes_from n i hosts) k ≡ Some (node_in n (i + k) host)
  unfolding nodes_from
  get_from i k [] host e = absurd (none-some host e)
  get_from i zero (p ∷ hosts) host e = ap (λ q. Some (node_in n i q)) (same_Some p host e) ∙ ap (λ j. Some (node_in n j host)) (omega arith)
  get_from i (suc k) (p ∷ hosts) host e = get_from (suc i) k hosts host e ∙ ap (λ j. Some (node_in n j host)) (omega arith)

  back_from : (i k : ℕ) (hosts : List (NodeHost T)) (node : Node T) → slice_get (nodes_from n i hosts) k ≡ Some node → (host : NodeHost T) × (slice_get hosts k ≡ Some host) × (node_in n (i + k) host ≡ node)
  unfolding nodes_from
  back_from i k [] node e = absurd (none-some node e)
  back_from i zero (p ∷ hosts) node e = (p, refl, ap (λ j. node_in n j p) (omega arith) ∙ same_Some (node_in n i p) node e)
  back_from i (suc k) (p ∷ hosts) node e =
      let found = back_from (suc i) k hosts node e in
      (found.0, found.1, ap (λ j. node_in n j found.0) (omega arith) ∙ found.2)

  set_from : (i k : ℕ) (hosts : List (NodeHost T)) (host : NodeHost T) → nodes_from n i (slice_set hosts k host) ≡ slice_set (nodes_from n i hosts) k (node_in n (i + k) host)
  unfolding nodes_from
  set_from i k [] host = refl
  set_from i zero (p ∷ hosts) host = ap (λ j. node_in n j host ∷ nodes_from n (suc i) hosts) (omega arith)
  set_from i (suc k) (p ∷ hosts) host =
      ap (λ ns. node_in n i p ∷ ns) (set_from (suc i) k hosts host) ∙ ap (λ j. node_in n i p ∷ slice_set (nodes_from n (suc i) hosts) k (node_in n j host)) (omega arith)

-- the entries with one more at their end
pub one_more_node : {T : Type 0} (n i : ℕ) (hosts : List (NodeHost T)) (node : Node T) → nodes_from n i (hosts ++ Running node ∷ []) ≡ nodes_from n i hosts ++ node ∷ []
unfolding nodes_from
one_more_node n i [] node = refl
one_more_node n i (host ∷ hosts) node = ap (λ ns. node_in n i host ∷ ns) (one_more_node n (suc i) hosts node)

module _ {T : Type 0} (hosts : List (NodeHost T)) where
  pub length-nodes : length (nodes_of hosts) ≡ length hosts
  length-nodes = long_from (length hosts) 0 hosts

  pub nodes_get : (k : ℕ) (host : NodeHost T) → slice_get hosts k ≡ Some host → slice_get (nodes_of hosts) k ≡ Some (node_in (length hosts) k host)
  nodes_get k host e = get_from (length hosts) 0 k hosts host e ∙ ap (λ j. Some (node_in (length hosts) j host)) (omega arith)

  pub nodes_back : (k : ℕ) (node : Node T) → slice_get (nodes_of hosts) k ≡ Some node → (host : NodeHost T) × (slice_get hosts k ≡ Some host) × (node_in (length hosts) k host ≡ node)
  nodes_back k node e =
      let found = back_from (length hosts) 0 k hosts node e in
      (found.0, found.1, ap (λ j. node_in (length hosts) j found.0) (omega arith) ∙ found.2)

  pub nodes_set : (k : ℕ) (host : NodeHost T) → nodes_of (slice_set hosts k host) ≡ slice_set (nodes_of hosts) k (node_in (length hosts) k host)
  nodes_set k host =
      ap (λ n. nodes_from n 0 (slice_set hosts k host)) (length-set hosts k host)
      ∙ set_from (length hosts) 0 k hosts host
      ∙ ap (λ j. slice_set (nodes_of hosts) k (node_in (length hosts) j host)) (omega arith)

-- ---- what stays

pub keeps_itself : {T : Type 0} (host : NodeHost T) → KeepsHost host host
keeps_itself (Running node) = (node, refl)
keeps_itself (Stopped tape) = refl

keeps_twice : {T : Type 0} (host middle after : NodeHost T) → KeepsHost host middle → KeepsHost middle after → KeepsHost host after
keeps_twice {T} (Running node) middle after first second =
    let again : KeepsHost (Running first.0) after = subst (λ (p : NodeHost T). KeepsHost p after) first.1 second in
    (again.0, again.1)
keeps_twice {T} (Stopped tape) middle after first second = subst (λ (p : NodeHost T). KeepsHost p after) first second

pub keep_themselves : {T : Type 0} (hosts : List (NodeHost T)) → KeepHosts hosts hosts
unfolding KeepHosts
keep_themselves hosts = λ i host at. (host, at, keeps_itself host)

pub keep_twice : {T : Type 0} (hosts middle after : List (NodeHost T)) → KeepHosts hosts middle → KeepHosts middle after → KeepHosts hosts after
unfolding KeepHosts
keep_twice hosts middle after first second = λ i host at.
    let here = first i host at in
    let next = second i here.0 here.1 in
    (next.0, next.1, keeps_twice host here.0 next.0 here.2 next.2)

pub keep_set : {T : Type 0} (hosts : List (NodeHost T)) (i : ℕ) (host next : NodeHost T) → slice_get hosts i ≡ Some host → KeepsHost host next → KeepHosts hosts (slice_set hosts i next)
unfolding KeepHosts
keep_set {T} hosts i host next at keeps = λ j p there. elim (cases_eq j i) [
  | inl same ↦
      let it : host ≡ p = same_Some host p (sym at ∙ subst (λ k. slice_get hosts k ≡ Some p) same there) in
      (next, subst (λ k. slice_get (slice_set hosts i next) k ≡ Some next) (sym same) (set_there hosts i next host at), subst (λ (q : NodeHost T). KeepsHost q next) it keeps)
  | inr differs ↦ (p, get_set_other hosts i j next differs ∙ there, keeps_itself p)
]

-- ---- nodes that all run

-- the node at an index runs
pub runs_at : {T : Type 0} (hosts : List (NodeHost T)) (i : ℕ) → AllRun hosts → i < length hosts → RunsAt hosts i
unfolding AllRun
runs_at {T} hosts i all within = at_index hosts i (λ k host at. all k host at) within
  where
    at_index : (hosts : List (NodeHost T)) (i : ℕ) → ((k : ℕ) (host : NodeHost T) → slice_get hosts k ≡ Some host → (node : Node T) × (host ≡ Running node)) → i < length hosts → RunsAt hosts i
    at_index [] i all within = absurd (omega arith)
    at_index (host ∷ hosts) zero all within = let is = all 0 host refl in (is.0, ap Some is.1)
    at_index (host ∷ hosts) (suc i) all within = at_index hosts i (λ k p at. all (suc k) p at) (omega arith)

-- nodes that all ran still do
pub all_run_on : {T : Type 0} (hosts after : List (NodeHost T)) → length after ≡ length hosts → KeepHosts hosts after → AllRun hosts → AllRun after
unfolding AllRun KeepHosts
all_run_on {T} hosts after long keep all = λ i host at.
    let was = runs_at hosts i all (omega (arith, long, slice_get_within after i host at)) in
    let kept = keep i (Running was.0) was.1 in
    (kept.2.0, same_Some host kept.0 (sym at ∙ kept.1) ∙ kept.2.1)

-- with one more that runs at their end they all run
pub one_more_runs : {T : Type 0} (hosts : List (NodeHost T)) (node : Node T) → AllRun hosts → AllRun (hosts ++ Running node ∷ [])
unfolding AllRun
one_more_runs {T} hosts node all = λ i host at. at_index hosts i host (λ k p e. all k p e) at
  where
    at_index : (hosts : List (NodeHost T)) (i : ℕ) (host : NodeHost T) → ((k : ℕ) (p : NodeHost T) → slice_get hosts k ≡ Some p → (n : Node T) × (p ≡ Running n)) → slice_get (hosts ++ Running node ∷ []) i ≡ Some host →
        (n : Node T) × (host ≡ Running n)
    at_index [] zero host all at = (node, sym (same_Some (Running node) host at))
    at_index [] (suc i) host all at = absurd (none-some host at)
    at_index (p ∷ hosts) zero host all at = all 0 host at
    at_index (p ∷ hosts) (suc i) host all at = at_index hosts i host (λ k q e. all (suc k) q e) at

pub none_run : (T : Type 0) → AllRun {T = T} []
unfolding AllRun
none_run T = λ i host at. absurd (none-some host at)
