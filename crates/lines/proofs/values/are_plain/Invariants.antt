use Rattle.std.proofs.Common.{◌≡◌, ◌+◌, ◌≤◌, drop, map}
use Rattle.json.specs.Tape.{node_token}
use Rattle.lines.specs.Meanings.{AreRanged, opened}
use Rattle.lines.proofs.values.are_plain.Given as goal

-- the nodes so far are plain, and this many open an array or an object
abbrev pub invariant-nodes : goal.invariant-nodes
invariant-nodes l = record {
  ranged : AreRanged (map node_token (drop l.node-index l.nodes)) → AreRanged (map node_token l.nodes);
  counted : l.opened + opened (map node_token (drop l.node-index l.nodes)) ≡ opened (map node_token l.nodes);
  bounded : l.opened ≤ l.node-index;
}
