-- A primitive's fields, and what clauses see of it.
use Rattle.udp_table.specs.Primitive.{Primitive, IsAccepted}
use Rattle.udp_table.specs.declared.udp.Udp.TheInside.{Inside}

-- the primitive of its fields
abbrev pub primitive_of : Inside → Primitive
primitive_of u = record { inputs = u.inputs; sequential = u.sequential; start = u.start; rows = u.rows }

-- the fields are such as `build` accepts
abbrev pub IsAcceptedInside : Inside → Type 0
IsAcceptedInside u = IsAccepted (primitive_of u)
