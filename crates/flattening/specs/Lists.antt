-- What lists hold of a flat netlist.
use Rattle.netlist_plan.specs.Additions.{Additions}
use Rattle.flattening.specs.declared.lists.FlatLists.{FlatLists}
use Rattle.flattening.specs.declared.lists.Growth.{Growth}

abbrev pub all_in : FlatLists → Additions
all_in flat = record {
  net_names = flat.net_names;
  claims = flat.claims;
  elements = flat.elements;
  element_names = flat.element_names;
  resistive = flat.resistive;
  finds = flat.finds;
  terminals = flat.terminals;
}

-- for the code alone: what lists that grow hold
abbrev pub so_far : Growth → Additions
so_far growth = record {
  net_names = growth.net_names.items;
  claims = growth.claims.items;
  elements = growth.elements.items;
  element_names = growth.element_names.items;
  resistive = growth.resistive.items;
  finds = growth.finds.items;
  terminals = growth.terminals.items;
}
