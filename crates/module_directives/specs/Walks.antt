-- For the code alone: what is in force, walking on from some directive.
use Rattle.std.specs.Prelude.{◌≡◌, ◌≤◌, ℕ, ℤ, List, [], ◌∷◌, length, drop, if◌then◌else◌}
use Rattle.v_tree.specs.declared.directives.Directive.{Directive}
use Rattle.module_directives.specs.declared.settings.Settings.{Settings}
use Rattle.module_directives.specs.declared.settings.Walk.{Walk}
use Rattle.module_directives.specs.InForce.{settings_after, default_settings, is_before}

-- what is in force at a token, where these settings are in force before the directives
abbrev pub settings_from : ℤ → ℕ → Settings → List Directive → Settings
settings_from tick token settings [] = settings
settings_from tick token settings (d ∷ ds) = if is_before token d then settings_from tick token (settings_after tick settings d) ds else settings

-- at each token that isn't before that of the walk, what is in force follows from where the walk stands
pub record IsBehind (tick : ℤ) (ds : List Directive) (walk : Walk) : Type 0 where
  pub within : walk.count ≤ length ds
  pub on : (token : ℕ) → walk.token ≤ token →
      settings_from tick token (default_settings tick) ds ≡ settings_from tick token walk.settings (drop walk.count ds)
