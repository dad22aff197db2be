-- Walking on over directives.
use Rattle.std.proofs.Common.{◌≡◌, ℕ, suc, ◌+◌, Bool, true, false, List, [], ◌∷◌, ℤ, refl, ap, ◌∙◌, arith}
use Rattle.std.specs.List.{fold, take_while, prefix_len}
use Rattle.v_tree.specs.declared.directives.Directive.{Directive}
use Rattle.module_directives.specs.declared.settings.Settings.{Settings}
use Rattle.v_tree.specs.declared.locations.Location.{Location}
use Rattle.module_directives.specs.Precisions.{tick_of}
use Rattle.module_directives.specs.InForce.{settings_after, default_settings, is_before, settings_at}
use Rattle.module_directives.specs.Walks.{settings_from}

fold_step : (tick : ℤ) (token : ℕ) (settings : Settings) (d : Directive) (ds : List Directive) (before : Bool) → is_before token d ≡ before →
    settings_from tick token (settings_after tick settings d) ds ≡ fold (settings_after tick) (settings_after tick settings d) (take_while (is_before token) ds) →
    settings_from tick token settings (d ∷ ds) ≡ fold (settings_after tick) settings (take_while (is_before token) (d ∷ ds))
fold_step tick token settings d ds true before others =
    let one : 1 + prefix_len (is_before token) ds ≡ suc (prefix_len (is_before token) ds) = omega arith in
    rw (before, one) others
fold_step tick token settings d ds false before others = rw before refl

-- what is in force at a token is what the directives before it leave
pub settings_from-fold : (tick : ℤ) (token : ℕ) (settings : Settings) (ds : List Directive) → settings_from tick token settings ds ≡ fold (settings_after tick) settings (take_while (is_before token) ds)
settings_from-fold tick token settings [] = refl
settings_from-fold tick token settings (d ∷ ds) = fold_step tick token settings d ds (is_before token d) refl (settings_from-fold tick token (settings_after tick settings d) ds)

-- what is in force at a location, by the ticks of the file
pub settings_at-from : (ds : List Directive) (location : Location) (tick : ℤ) → tick ≡ tick_of ds →
    settings_from tick location.token (default_settings tick) ds ≡ settings_at ds location
settings_at-from ds location tick same =
    ap (λ (t : ℤ). settings_from t location.token (default_settings t) ds) same
    ∙ settings_from-fold (tick_of ds) location.token (default_settings (tick_of ds)) ds
