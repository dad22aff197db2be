use Rattle.std.proofs.Common.{◌≡◌, ◌++◌, map, take}
use Rattle.module_ports.specs.Ports.{entry_name, port_of}
use Rattle.module_ports.specs.Entries.{AreEntries, ports_in}
use Rattle.module_ports.proofs.header.push_entries.Given as goal

abbrev pub invariant-loop-other : goal.invariant-loop-other
invariant-loop-other l = record {
  entries : AreEntries l.entries;
  ports : ports_in l.entries ≡ ports_in l.initial.entries ++ map (λ name. port_of l.scope name.text) (map entry_name (take l.other-index l.others));
}
