-- The names of a module's steps differ, and so do the names in its instances.
use Rattle.std.proofs.Common.{◌≡◌, ℕ, zero, suc, ◌<◌, Bool, List, [], ◌∷◌, map, Option, Some, None, refl, sym, ap, ◌∙◌, arith}
use Rattle.std.specs.Prelude.{slice_get}
use Rattle.std.specs.List.{AllByRecursion}
use Rattle.flat_net.specs.Lists.{AreDistinct}
use Rattle.flat_names.specs.Spelling.{Own, Written as WrittenOwn, Unnamed as UnnamedOwn, FlatName}
use Rattle.netlist_plan.specs.declared.plan.OwnName.{OwnName}
use Rattle.netlist_plan.specs.declared.plan.OwnName.TheVariants.{Written, Unnamed}
use Rattle.netlist_plan.specs.declared.plan.ElementName.{ElementName}
use Rattle.netlist_plan.specs.declared.plan.ElementName.TheVariants.{Gate, Half, Bit}
use Rattle.netlist_plan.specs.declared.plan.PlanElement.{PlanElement}
use Rattle.netlist_plan.specs.declared.plan.PlanStep.{PlanStep}
use Rattle.netlist_plan.specs.declared.plan.PlanStep.TheVariants.{Element as ElementStep, Instance as InstanceStep}
use Rattle.netlist_plan.specs.declared.plan.ModulePlan.{ModulePlan}
use Rattle.netlist_plan.specs.Flattening.{Hierarchy, half_name, own_name}
use Rattle.flattening_laws.specs.SoundPlans.{AreNotHalved, step_name}
use Rattle.flattening_laws.proofs.Apart.{Differ, each_always, each_from_at, each_weaker}
use Rattle.flattening_laws.proofs.NameTrees.{StepHas, StepsApart, inside_of}

pub get_map : {X Y : Type 0} (f : X → Y) (xs : List X) (k : ℕ) (x : X) → slice_get xs k ≡ Some x → slice_get (map f xs) k ≡ Some (f x)
get_map {X} f [] k x e = absurd (let n : None ≡ Some x = e in cc)
get_map {X} f (y ∷ ys) zero x e = let same : y ≡ x = cc in ap (λ (z : X). Some (f z)) same
get_map f (y ∷ ys) (suc k) x e = get_map f ys k x e

-- ---- two names of steps

record AreUnlike (a b : ElementName) : Type 0 where
  pub differ : Differ a b
  pub no_half : (own : OwnName) (on_one : Bool) → a ≡ Half own on_one → b ≡ Gate own → ⊥
  pub not_halved : (own : OwnName) (on_one : Bool) → b ≡ Half own on_one → a ≡ Gate own → ⊥

abbrev AreStepNames : List PlanStep → Type 0
AreStepNames ss = AreDistinct (map step_name ss) × AreNotHalved (map step_name ss)

later : (s : PlanStep) (ss : List PlanStep) → AreStepNames (s ∷ ss) → AreStepNames ss
later s ss h = (
  λ i j x e f. let same : suc i ≡ suc j = h.0 (suc i) (suc j) x e f in omega arith,
  λ i j own on_one e f. h.1 (suc i) (suc j) own on_one e f,
)

unlike : (s : PlanStep) (ss : List PlanStep) → AreStepNames (s ∷ ss) → AllByRecursion (λ t. AreUnlike (step_name s) (step_name t)) ss
unlike s ss h = each_from_at (λ t. AreUnlike (step_name s) (step_name t)) ss (λ k t e.
    let at : slice_get (map step_name ss) k ≡ Some (step_name t) = get_map step_name ss k t e in
    record {
      differ = λ same.
          let first : slice_get (map step_name (s ∷ ss)) 0 ≡ Some (step_name t) = ap (λ (z : ElementName). Some z) same in
          let never : 0 ≡ suc k = h.0 0 (suc k) (step_name t) first at in
          omega arith;
      no_half = λ own on_one half gate.
          h.1 0 (suc k) own on_one (ap (λ (z : ElementName). Some z) half) (at ∙ ap (λ (z : ElementName). Some z) gate);
      not_halved = λ own on_one half gate.
          h.1 (suc k) 0 own on_one (at ∙ ap (λ (z : ElementName). Some z) half) (ap (λ (z : ElementName). Some z) gate);
    })

-- ---- the first part of a path

head_of : List Own → Own
head_of [] = UnnamedOwn 0
head_of (own ∷ owns) = own

inside_head : (a b : Own) (m n : FlatName) → inside_of a m ≡ inside_of b n → a ≡ b
unfolding head_of
inside_head a b m n e = ap (λ (f : FlatName). head_of f.path) e

own_text : Own → List ℕ
own_text (WrittenOwn name) = name
own_text (UnnamedOwn number) = []

inside_text : (a b : List ℕ) (m n : FlatName) → inside_of (WrittenOwn a) m ≡ inside_of (WrittenOwn b) n → a ≡ b
unfolding own_text
inside_text a b m n e = ap own_text (inside_head (WrittenOwn a) (WrittenOwn b) m n e)

-- a name of the module itself is no name in an instance
pub own_outside : (x : FlatName) (part : Own) (n : FlatName) → x.path ≡ [] → Differ x (inside_of part n)
own_outside x part n own e = let same : [] ≡ part ∷ n.path = sym own ∙ ap (λ (f : FlatName). f.path) e in cc

-- ---- trees in which elements have no names

abbrev pub no_names : PlanElement → List FlatName
no_names e = []

module _ (mine : List Bool → ModulePlan → List FlatName) (h : Hierarchy) where
  instance_unlike : (a : List ℕ) (n : FlatName) (t : PlanStep) → Differ (Gate (Written a)) (step_name t) → StepHas mine no_names h (Differ (inside_of (WrittenOwn a) n)) t
  instance_unlike a n (ElementStep e) d = tt
  instance_unlike a n (InstanceStep i) d = λ m e. d (ap (λ (x : List ℕ). Gate (Written x)) (inside_text a i.name n m e))

  pub instances_apart : (ss : List PlanStep) → AreDistinct (map step_name ss) → AreNotHalved (map step_name ss) → StepsApart mine no_names h ss
  instances_apart [] d k = tt
  instances_apart (ElementStep e ∷ ss) d k =
      let rest = later (ElementStep e) ss (d, k) in
      (tt, (tt, instances_apart ss rest.0 rest.1))
  instances_apart (InstanceStep i ∷ ss) d k =
      let rest = later (InstanceStep i) ss (d, k) in (
        tt,
        (
          λ n. each_weaker (λ t. AreUnlike (Gate (Written i.name)) (step_name t)) (StepHas mine no_names h (Differ (inside_of (WrittenOwn i.name) n))) ss
              (λ t u. instance_unlike i.name n t u.differ) (unlike (InstanceStep i) ss (d, k)),
          instances_apart ss rest.0 rest.1,
        ),
      )

  own_from : (x : FlatName) → x.path ≡ [] → (s : PlanStep) → StepHas mine no_names h (Differ x) s
  own_from x own (ElementStep e) = tt
  own_from x own (InstanceStep i) = λ n. own_outside x (WrittenOwn i.name) n own

  pub own_from_instances : (xs : List FlatName) (ss : List PlanStep) → AllByRecursion (λ x. x.path ≡ []) xs → AllByRecursion (λ x. AllByRecursion (StepHas mine no_names h (Differ x)) ss) xs
  own_from_instances xs ss own =
      each_weaker (λ x. x.path ≡ []) (λ x. AllByRecursion (StepHas mine no_names h (Differ x)) ss) xs
      (λ x e. each_always (StepHas mine no_names h (Differ x)) ss (own_from x e)) own

-- ---- the tree of the elements' names

-- the name of an element in its module
abbrev pub element_record : ElementName → FlatName
element_record (Gate own) = record { path = []; own = own_name own; index = None }
element_record (Half own on_one) = record { path = own_name own ∷ []; own = WrittenOwn (half_name on_one); index = None }
element_record (Bit number index) = record { path = []; own = UnnamedOwn number; index = Some index }

abbrev pub element_names : PlanElement → List FlatName
element_names e = element_record e.name ∷ []

own_of : Own → OwnName
own_of (WrittenOwn name) = Written name
own_of (UnnamedOwn number) = Unnamed number

own_back : (own : OwnName) → own_of (own_name own) ≡ own
unfolding own_of
own_back (Written name) = refl
own_back (Unnamed number) = refl

pub own_same : (a b : OwnName) → own_name a ≡ own_name b → a ≡ b
own_same a b e = sym (own_back a) ∙ ap own_of e ∙ own_back b

first_byte : List ℕ → ℕ
first_byte [] = 0
first_byte (b ∷ bs) = b

unequal : (a b : ℕ) → a < b → a ≡ b → ⊥
unequal a b less same = omega arith

half_same : (a b : Bool) → half_name a ≡ half_name b → a ≡ b
unfolding first_byte
half_same Bool.true Bool.true e = refl
half_same Bool.true Bool.false e = absurd (unequal 110 112 (omega arith) (ap first_byte e))
half_same Bool.false Bool.true e = absurd (unequal 110 112 (omega arith) (sym (ap first_byte e)))
half_same Bool.false Bool.false e = refl

record_same : (a b : ElementName) → element_record a ≡ element_record b → a ≡ b
unfolding head_of own_text
record_same (Gate a) (Gate b) e = ap Gate (own_same a b (ap (λ (f : FlatName). f.own) e))
record_same (Gate a) (Half b on_one) e = absurd (let n : [] ≡ own_name b ∷ [] = ap (λ (f : FlatName). f.path) e in cc)
record_same (Gate a) (Bit number index) e = absurd (let n : None ≡ Some index = ap (λ (f : FlatName). f.index) e in cc)
record_same (Half a on_one) (Gate b) e = absurd (let n : own_name a ∷ [] ≡ [] = ap (λ (f : FlatName). f.path) e in cc)
record_same (Half a on_one) (Half b also) e =
    let own : a ≡ b = own_same a b (ap (λ (f : FlatName). head_of f.path) e) in
    let half : on_one ≡ also = half_same on_one also (ap (λ (f : FlatName). own_text f.own) e) in
    ap (λ (o : OwnName). Half o on_one) own ∙ ap (λ (t : Bool). Half b t) half
record_same (Half a on_one) (Bit number index) e = absurd (let n : own_name a ∷ [] ≡ [] = ap (λ (f : FlatName). f.path) e in cc)
record_same (Bit number index) (Gate b) e = absurd (let n : Some index ≡ None = ap (λ (f : FlatName). f.index) e in cc)
record_same (Bit number index) (Half b on_one) e = absurd (let n : [] ≡ own_name b ∷ [] = ap (λ (f : FlatName). f.path) e in cc)
record_same (Bit number index) (Bit other place) e =
    let numbers : number ≡ other = ap (λ (f : FlatName). number_in f.own) e in
    let indexes : index ≡ place = ap (λ (f : FlatName). index_in f.index) e in
    ap (λ (n : ℕ). Bit n index) numbers ∙ ap (λ (n : ℕ). Bit other n) indexes
  where
    number_in : Own → ℕ
    number_in (WrittenOwn name) = 0
    number_in (UnnamedOwn n) = n

    index_in : Option ℕ → ℕ
    index_in None = 0
    index_in (Some n) = n

module _ (mine : List Bool → ModulePlan → List FlatName) (h : Hierarchy) where
  -- the name of an element is none of those in an instance
  element_outside : (a : ElementName) (b : List ℕ) (n : FlatName) → AreUnlike a (Gate (Written b)) → Differ (element_record a) (inside_of (WrittenOwn b) n)
  unfolding head_of
  element_outside (Gate own) b n u e = let same : [] ≡ WrittenOwn b ∷ n.path = ap (λ (f : FlatName). f.path) e in cc
  element_outside (Half own on_one) b n u e =
      let same : own ≡ Written b = own_same own (Written b) (ap (λ (f : FlatName). head_of f.path) e) in
      u.no_half own on_one refl (ap Gate (sym same))
  element_outside (Bit number index) b n u e = let same : [] ≡ WrittenOwn b ∷ n.path = ap (λ (f : FlatName). f.path) e in cc

  swap : (a b : ElementName) → AreUnlike a b → AreUnlike b a
  swap a b u = record { differ = λ e. u.differ (sym e); no_half = λ own on_one. u.not_halved own on_one; not_halved = λ own on_one. u.no_half own on_one }

  element_unlike : (a : ElementName) (t : PlanStep) → AreUnlike a (step_name t) → StepHas mine element_names h (Differ (element_record a)) t
  element_unlike a (ElementStep e) u = (λ same. u.differ (record_same a e.name same), tt)
  element_unlike a (InstanceStep i) u = λ n. element_outside a i.name n u

  inside_unlike : (a : List ℕ) (n : FlatName) (t : PlanStep) → AreUnlike (Gate (Written a)) (step_name t) → StepHas mine element_names h (Differ (inside_of (WrittenOwn a) n)) t
  inside_unlike a n (ElementStep e) u = (λ same. element_outside e.name a n (swap (Gate (Written a)) e.name u) (sym same), tt)
  inside_unlike a n (InstanceStep i) u = λ m e. u.differ (ap (λ (x : List ℕ). Gate (Written x)) (inside_text a i.name n m e))

  pub elements_apart : (ss : List PlanStep) → AreDistinct (map step_name ss) → AreNotHalved (map step_name ss) → StepsApart mine element_names h ss
  elements_apart [] d k = tt
  elements_apart (ElementStep e ∷ ss) d k =
      let rest = later (ElementStep e) ss (d, k) in (
        (tt, tt),
        (
          (
            each_weaker (λ t. AreUnlike e.name (step_name t)) (StepHas mine element_names h (Differ (element_record e.name))) ss
                (λ t u. element_unlike e.name t u) (unlike (ElementStep e) ss (d, k)),
            tt,
          ),
          elements_apart ss rest.0 rest.1,
        ),
      )
  elements_apart (InstanceStep i ∷ ss) d k =
      let rest = later (InstanceStep i) ss (d, k) in (
        tt,
        (
          λ n. each_weaker (λ t. AreUnlike (Gate (Written i.name)) (step_name t)) (StepHas mine element_names h (Differ (inside_of (WrittenOwn i.name) n))) ss
              (λ t u. inside_unlike i.name n t u) (unlike (InstanceStep i) ss (d, k)),
          elements_apart ss rest.0 rest.1,
        ),
      )
