use Rattle.std.specs.Arc.{arc_value}
use Rattle.ssh_hub.specs.Words.{config_of, view_of}
use Rattle.ssh_threads.proofs.served.serve.Given as goal

abbrev pub ghosts-serve_once : goal.ghosts-serve_once
ghosts-serve_once g a = record {
  table = (arc_value a.lock).table.shared.table_id;
  config = config_of (arc_value a.lock);
  seat = view_of a.seat;
  name = a.peer.ghost_name;
  inputs = g.P.Feed.inputs a.peer.now;
  frames = g.P.Feed.frames a.peer.now;
}
