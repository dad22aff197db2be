use Rattle.first_machine.proofs.RunState.{listed_in_range, finds_values}
use Rattle.first_machine.proofs.run.listed_places.Goals as goal

pub places_by_net-requires : goal.places_by_net-requires
places_by_net-requires c =
    rw (c.as_slice.ensures, c.as_slice-nets.ensures) (listed_in_range c.args.netlist.now c.args.stimulus.now c.requires.sound c.requires.lawful)

pub returns-clause-places : goal.returns-clause-places
returns-clause-places c =
    let found = rw (c.as_slice.ensures, c.as_slice-nets.ensures) at c.in_ok-by_net.ensures.places in
    let places = rw (c.as_slice-2.ensures, c.as_slice-3.ensures.value) at c.in_ok-places.ensures in
    finds_values c.args.netlist.now c.args.stimulus.now c.in_ok-by_net.by_net.items c.in_ok-places.places.items c.requires.sound c.requires.lawful found places
