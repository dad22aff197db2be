-- What the instances of primitives in the modules that a top reaches have.
use Rattle.std.specs.Prelude.{◌≡◌, ℕ, ◌+◌, ◌<◌, true, false, IsSomeAnd, length, slice_get, slice_index_or}
use Rattle.v_tree.specs.declared.gates.Instance.{Instance}
use Rattle.v_tree.specs.declared.modules.File.{File}
use Rattle.module_graph.specs.declared.references.Master.TheVariants.{Udp}
use Rattle.netlist_rules.specs.Items.{port_counts}
use Rattle.netlist_meaning.specs.Plans.{master_in, meanings_in, primitives_in, primitives_reached}

-- where an instance is of a primitive, the file has that, and the top reaches it
abbrev pub ReachesPrimitive : File → ℕ → Instance → Type 0
ReachesPrimitive file top i =
    (u : ℕ) → master_in file i.name.text ≡ Udp u
    → (slice_index_or (primitives_reached file top) u false ≡ true) × (u < length file.udps)

-- where an instance is of a primitive, that stands at its number, and has one input less than its header has names
abbrev pub HasPrimitive : File → ℕ → Instance → Type 0
HasPrimitive file top i =
    (u : ℕ) → master_in file i.name.text ≡ Udp u
    → IsSomeAnd (slice_get (primitives_in file top) ((meanings_in file top).udp_numbers u))
    (λ p. p.inputs + 1 ≡ slice_index_or (port_counts file.udps) u 0)
