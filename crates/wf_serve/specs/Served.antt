-- What the nodes of a farm did, from the moment that they are open to the last connection.
use Rattle.std.specs.Prelude.{◌≡◌, ℕ, List, length, IsSome, None, Ok}
use Rattle.wf_delivery.specs.Delivery.{AnyPart, StandInTurn}
use Rattle.wf_delivery.specs.Reachability.{AreFresh, AreReachable}
use Rattle.wf_node.specs.Node.{Node}
use Rattle.wf_serve.specs.Agreement.{HaveGoneOn}
use Rattle.wf_serve.specs.CacheSet.{HaveCaches}
use Rattle.wf_serve.specs.Connections.{IsServing}
use Rattle.wf_serve.specs.OpenedNodes.{WereRead}
use Rattle.wf_service.specs.declared.service.Service.{Service}
use Rattle.wf_tape.specs.declared.tape.Tape.{Ghosts as Tape}

module _ {T : Type 0} (tapes : Tape T) where
  -- The nodes, each at its own index, caught up and served this many connections, each with a cache
  -- for this many pictures. What happened to them is one run of the model; so if the model's start
  -- leads to them, they have published one definition under one sequence and respond alike; and no
  -- list of published maps has lost one.
  pub record HaveServed (requests room : ℕ) (nodes nodes_after : List (Node T)) : Type 0 where
    pub in_turn : StandInTurn nodes
    pub serving : IsServing tapes requests nodes (Ok tt) nodes_after
    pub caches : HaveCaches room nodes_after
    pub headline : HaveGoneOn tapes nodes nodes_after

  -- There were as many nodes as the service has, opened from what was read of their tapes, and they
  -- served its number of connections, with caches of its size.
  pub record Served (service : Service) : Type 0 where
    pub nodes : List (Node T)
    pub nodes_after : List (Node T)
    pub as_many : length nodes ≡ service.nodes
    pub read : WereRead nodes
    pub have : HaveServed service.requests service.cache nodes nodes_after

  -- They were new ones, to which the model's start leads.
  pub record NewServed (service : Service) : Type 0 where
    pub nodes : List (Node T)
    pub nodes_after : List (Node T)
    pub as_many : length nodes ≡ service.nodes
    pub new : AreFresh nodes
    pub reached : AreReachable AnyPart nodes
    pub have : HaveServed service.requests service.cache nodes nodes_after

-- What was served of a service: new nodes on tapes in memory, if it has no folder; else nodes on
-- tapes in files.
pub record HasServed {M F : Type 0} (inside : Tape M) (outside : Tape F) (service : Service) : Type 0 where
  pub memory : service.state ≡ None → NewServed inside service
  pub files : IsSome service.state → Served outside service
