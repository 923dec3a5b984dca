-- Values that pass a test wherever they are there.
use Rattle.std.proofs.Common.{◌≡◌, Bool, true, false, Option, Some, None, option_map, option_and_then, if◌then◌else◌, refl, subst}
use Rattle.std.proofs.lemmas.Option.{same_Some}
use Rattle.world_lines.specs.Forms.{both, all_three}

-- every value that is there passes the test
abbrev pub Passes : {A : Type 0} → (A → Bool) → Option A → Type 0
Passes {A} test o = (x : A) → o ≡ Some x → test x ≡ true

pub none_passes : {A : Type 0} (test : A → Bool) → Passes test None
none_passes test x is = cc

pub some_passes : {A : Type 0} (test : A → Bool) (x : A) → test x ≡ true → Passes test (Some x)
some_passes test x pass y is = subst (λ z. test z ≡ true) (same_Some x y is) pass

pub if_passes : {A : Type 0} (test : A → Bool) (b : Bool) (o other : Option A) → Passes test o → Passes test other → Passes test (if b then o else other)
if_passes test true o other first second = first
if_passes test false o other first second = second

-- what is chosen by a test that the value then passes
pub guarded_passes : {A : Type 0} (test : A → Bool) (b : Bool) (o : Option A) → (b ≡ true → Passes test o) → Passes test (if b then o else None)
guarded_passes test true o inside = inside refl
guarded_passes test false o inside = none_passes test

pub map_passes : {A B : Type 0} (test : B → Bool) (f : A → B) (o : Option A) → ((x : A) → o ≡ Some x → test (f x) ≡ true) → Passes test (option_map f o)
map_passes test f (Some x) pass = some_passes test (f x) (pass x refl)
map_passes test f None pass = none_passes test

pub both_passes : {A B C : Type 0} (test : C → Bool) (f : A → B → C) (a : Option A) (b : Option B) → ((x : A) (y : B) → b ≡ Some y → test (f x y) ≡ true) → Passes test (both f a b)
both_passes test f (Some x) (Some y) pass = some_passes test (f x y) (pass x y refl)
both_passes test f (Some x) None pass = none_passes test
both_passes test f None b pass = none_passes test

pub three_pass : {A B C D : Type 0} (test : D → Bool) (f : A → B → C → D) (a : Option A) (b : Option B) (c : Option C) → ((x : A) (y : B) (z : C) → a ≡ Some x → c ≡ Some z → test (f x y z) ≡ true)
    → Passes test (all_three f a b c)
three_pass test f (Some x) (Some y) (Some z) pass = some_passes test (f x y z) (pass x y z refl refl)
three_pass test f (Some x) (Some y) None pass = none_passes test
three_pass test f (Some x) None c pass = none_passes test
three_pass test f None b c pass = none_passes test

pub then_passes : {A B : Type 0} (test : B → Bool) (f : A → Option B) (o : Option A) → ((x : A) → o ≡ Some x → Passes test (f x)) → Passes test (option_and_then f o)
then_passes test f (Some x) pass = pass x refl
then_passes test f None pass = none_passes test
