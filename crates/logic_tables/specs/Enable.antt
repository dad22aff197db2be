-- Three-state gates, what they drive, and switches that conduct by a control (IEEE 1364-2005, 7.4 to 7.6).
use Rattle.std.specs.Prelude.{ℕ, Bool, true, false, pos}
use Rattle.level_range.specs.declared.range.Logic.{Logic}
use Rattle.level_range.specs.declared.range.Logic.TheVariants as value
use Rattle.level_range.specs.declared.range.Conduct.{Conduct}
use Rattle.level_range.specs.declared.range.Conduct.TheVariants.{On, Off, Unknown}
use Rattle.level_range.specs.Signal.{Signal, negative_level, span_of}
use Rattle.logic_tables.specs.declared.kinds.EnableKind.{EnableKind}
use Rattle.logic_tables.specs.declared.kinds.EnableKind.TheVariants.{Bufif0, Bufif1, Notif0, Notif1}
use Rattle.logic_tables.specs.declared.kinds.EnableOut.{EnableOut}
use Rattle.logic_tables.specs.declared.kinds.EnableOut.TheVariants as out

-- the inverted value
abbrev pub opposite : Logic → Logic
opposite value.Zero = value.One
opposite value.One = value.Zero
opposite value.X = value.X
opposite value.Z = value.Z

-- the data of an enabled gate: 0, 1 and x pass, and z becomes x
abbrev pub enabled_output : Logic → EnableOut
enabled_output value.Zero = out.Zero
enabled_output value.One = out.One
enabled_output value.X = out.X
enabled_output value.Z = out.X

-- the data of a gate that may be enabled: 0 or z, 1 or z, else x
abbrev pub possible_output : Logic → EnableOut
possible_output value.Zero = out.L
possible_output value.One = out.H
possible_output value.X = out.X
possible_output value.Z = out.X

-- bufif1, of its data and its control
abbrev pub bufif1_of : Logic → Logic → EnableOut
bufif1_of d value.Zero = out.Z
bufif1_of d value.One = enabled_output d
bufif1_of d value.X = possible_output d
bufif1_of d value.Z = possible_output d

-- bufif0 inverts the control, notif1 the data, notif0 both
abbrev pub enable_of : EnableKind → Logic → Logic → EnableOut
enable_of Bufif1 d control = bufif1_of d control
enable_of Bufif0 d control = bufif1_of d (opposite control)
enable_of Notif1 d control = bufif1_of (opposite d) control
enable_of Notif0 d control = bufif1_of (opposite d) (opposite control)

-- what a three-state gate drives with strength s0 for 0 and s1 for 1
abbrev pub enable_span_of : EnableOut → ℕ → ℕ → Signal
enable_span_of out.Zero s0 s1 = span_of value.Zero s0 s1
enable_span_of out.One s0 s1 = span_of value.One s0 s1
enable_span_of out.X s0 s1 = span_of value.X s0 s1
enable_span_of out.Z s0 s1 = span_of value.Z s0 s1
enable_span_of out.L s0 s1 = record { lo = negative_level s0; hi = pos 0 }
enable_span_of out.H s0 s1 = record { lo = pos 0; hi = pos s1 }

-- a switch that conducts for control 1, or for control 0
abbrev pub conduct_of : Bool → Logic → Conduct
conduct_of on_one value.X = Unknown
conduct_of on_one value.Z = Unknown
conduct_of true value.Zero = Off
conduct_of true value.One = On
conduct_of false value.Zero = On
conduct_of false value.One = Off
