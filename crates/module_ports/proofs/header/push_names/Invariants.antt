use Rattle.std.proofs.Common.{◌≡◌, ◌++◌, map, take}
use Rattle.module_ports.specs.Ports.{port_of}
use Rattle.module_ports.specs.Entries.{AreEntries, ports_in}
use Rattle.module_ports.proofs.header.push_names.Given as goal

abbrev pub invariant-loop-name : goal.invariant-loop-name
invariant-loop-name l = record {
  entries : AreEntries l.entries;
  ports : ports_in l.entries ≡ ports_in l.initial.entries ++ map (λ name. port_of l.scope name.text) (take l.name-index l.names);
}
