use Rattle.std.proofs.Common.{◌≡◌, ◌++◌, ◌∷◌, [], List, Some, None, ap, sym, subst, ◌∙◌}
use Rattle.name_table.specs.Names.{index_of}
use Rattle.module_graph.proofs.NumberLaws.{added_name}
use Rattle.module_scope.proofs.Naming.{on_ok}
use Rattle.module_ports.specs.declared.entries.PortEntry.{PortEntry}
use Rattle.module_ports.specs.Ports.{Port, port_of}
use Rattle.module_ports.specs.Entries.{AreEntries, ports_at, ports_in}
use Rattle.module_ports.proofs.EntryLaws.{AreEntries-again, AreEntries-after, entries_with, entry, port_is, ports_in-again, ports_in-after}
use Rattle.module_ports.proofs.entries.PortEntries.push.Goals as goal

pub returns-in-Some-clause-entries : goal.returns-in-Some-clause-entries
returns-in-Some-clause-entries c =
    let old = c.args.self.now in
    let text = c.as_slice-text.result.now in
    let found : index_of text old.names ≡ Some c.in-Some.index = sym c.find.ensures ∙ c.in-Some.is in
    on_ok c.push.result c.push.new.self (old.entries ++ entry c.in-Some.index c.net_of-net.result ∷ [])
    (AreEntries (entries_with old.names old.firsts c.push.new.self)) c.push.ensures.ok
    (λ e. subst (λ (es : List PortEntry). AreEntries (entries_with old.names old.firsts es)) (sym e)
    (AreEntries-again old.names old.firsts old.entries c.requires text c.net_of-net.result c.in-Some.index found))

pub returns-in-Some-clause-ports : goal.returns-in-Some-clause-ports
returns-in-Some-clause-ports c =
    let old = c.args.self.now in
    let text = c.as_slice-text.result.now in
    let net = c.net_of-net.result in
    let found : index_of text old.names ≡ Some c.in-Some.index = sym c.find.ensures ∙ c.in-Some.is in
    on_ok c.push.result c.push.new.self (old.entries ++ entry c.in-Some.index net ∷ [])
    (ports_at old.names c.push.new.self ≡ ports_in old ++ port_of c.args.scope.now c.args.name.now.text ∷ []) c.push.ensures.ok
    (λ e. ap (ports_at old.names) e
    ∙ ports_in-again old.names old.firsts old.entries c.requires text net c.in-Some.index found
    ∙ ap (λ (p : Port). ports_in old ++ p ∷ []) (port_is c.args.scope.now text c.args.name.now.text net c.net_of-net.ensures c.as_slice-text.ensures))

pub returns-in_ok-push-in-None-clause-entries : goal.returns-in_ok-push-in-None-clause-entries
returns-in_ok-push-in-None-clause-entries c =
    let old = c.args.self.now in
    let text = c.as_slice-text.result.now in
    let net = c.net_of-net.result in
    let absent : index_of text old.names ≡ None = sym c.find.ensures ∙ c.in-None.is in
    let names : c.add.new.self ≡ old.names ++ text ∷ [] =
    added_name text old.names c.add.new.self c.in_ok-add-in-None.field-0 absent c.in_ok-add-in-None.ensures.new c.in_ok-add-in-None.ensures.names in
    on_ok c.push-in-None-2.result c.push-in-None-2.new.self (old.entries ++ entry c.len-index.result net ∷ [])
    (AreEntries (entries_with c.add.new.self c.push-in-None.new.self c.push-in-None-2.new.self)) c.push-in-None-2.ensures.ok
    (λ e. AreEntries-after old.names old.firsts old.entries c.requires text net absent c.add.new.self c.push-in-None-2.new.self c.len-index.result names e c.len-index.ensures.len
    c.push-in-None.new.self c.len.result c.in_ok-push-in-None.ensures.ok c.len.ensures)

pub returns-in_ok-push-in-None-clause-ports : goal.returns-in_ok-push-in-None-clause-ports
returns-in_ok-push-in-None-clause-ports c =
    let old = c.args.self.now in
    let text = c.as_slice-text.result.now in
    let net = c.net_of-net.result in
    let absent : index_of text old.names ≡ None = sym c.find.ensures ∙ c.in-None.is in
    let names : c.add.new.self ≡ old.names ++ text ∷ [] =
    added_name text old.names c.add.new.self c.in_ok-add-in-None.field-0 absent c.in_ok-add-in-None.ensures.new c.in_ok-add-in-None.ensures.names in
    on_ok c.push-in-None-2.result c.push-in-None-2.new.self (old.entries ++ entry c.len-index.result net ∷ [])
    (ports_at c.add.new.self c.push-in-None-2.new.self ≡ ports_in old ++ port_of c.args.scope.now c.args.name.now.text ∷ []) c.push-in-None-2.ensures.ok
    (λ e. ports_in-after old.names old.firsts old.entries c.requires text net absent c.add.new.self c.push-in-None-2.new.self c.len-index.result names e c.len-index.ensures.len
    ∙ ap (λ (p : Port). ports_in old ++ p ∷ []) (port_is c.args.scope.now text c.args.name.now.text net c.net_of-net.ensures c.as_slice-text.ensures))
