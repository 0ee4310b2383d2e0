-- The parameters of a service.
use Rattle.std.specs.Prelude.{◌≤◌, ℕ}
use Rattle.wf_service.specs.declared.service.Service.{Service}

-- the greatest number of nodes, the greatest port, the greatest number of connections, and of
-- pictures that a node keeps
abbrev pub most_nodes : ℕ
most_nodes = 64

abbrev pub last_port : ℕ
last_port = 65535

abbrev pub most_requests : ℕ
most_requests = 1000000

abbrev pub most_cached : ℕ
most_cached = 64

-- the numbers are within their ranges
pub record IsService (service : Service) : Type 0 where
  pub some : 1 ≤ service.nodes
  pub nodes : service.nodes ≤ most_nodes
  pub port : service.port ≤ last_port
  pub requests : service.requests ≤ most_requests
  pub cache : 1 ≤ service.cache
  pub cache_most : service.cache ≤ most_cached
