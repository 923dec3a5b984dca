-- What a record's pages are stays where an event leaves the parts that say it.
use Rattle.std.proofs.Common.{◌≡◌, ◌≢◌, ℕ, ◌≤◌, length, Option, Some, None, refl, sym, ap, ◌∙◌, subst}
use Rattle.std.specs.Prelude.{drop}
use Rattle.mon_enclave.specs.declared.enclave.Enclave.{Enclave}
use Rattle.pl_history.specs.declared.setup.SetupParts.{SetupParts}
use Rattle.pl_history.specs.Monitor.{Number, flat_image}
use Rattle.world_machine.specs.Making.{image_of}
use Rattle.world_machine.specs.PagesAgree.{AreBroken, PagesAgree, PagesAre, kinds_of, shared_by}
use Rattle.world_machine.proofs.Lists.{everywhere}

-- the parts of a record and of its number that say which pages it has
pub record SamePages (r r' : Enclave) (n n' : Number) : Type 0 where
  pub image : r'.image ≡ r.image
  pub sent : r'.sent ≡ r.sent
  pub retired : r'.retired ≡ r.retired
  pub kinds : r'.pages ≡ r.pages
  pub left : r'.spares ≡ r.spares
  pub parent : n'.parent ≡ n.parent
  pub pages : n'.pages ≡ n.pages
  pub spares : n'.spares ≡ n.spares

module _ (setup : SetupParts) (number_of : ℕ → Number) where
  pub pages_same : (r r' : Enclave) (n n' : Number) → SamePages r r' n n' → PagesAre setup number_of r n → PagesAre setup number_of r' n'
  pages_same r r' n n' same k = record {
    broken = k.broken;
    ahead = k.ahead;
    so_far = subst (λ parent. AreBroken parent (flat_image (image_of setup r'.image)) r'.sent r'.retired k.ahead k.broken) (sym same.parent)
        (subst (λ image. AreBroken n.parent (flat_image (image_of setup image)) r'.sent r'.retired k.ahead k.broken) (sym same.image)
        (subst (λ words. AreBroken n.parent (flat_image (image_of setup r.image)) words r'.retired k.ahead k.broken) (sym same.sent)
        (subst (λ so_far. AreBroken n.parent (flat_image (image_of setup r.image)) r.sent so_far k.ahead k.broken) (sym same.retired) k.so_far)));
    kinds = same.kinds ∙ k.kinds ∙ (λ i. kinds_of (sym same.pages i) (sym same.spares i) k.broken (shared_by number_of (sym same.parent i)));
    spares = same.left ∙ k.spares ∙ ap (drop (length k.broken)) (sym same.spares);
    few = subst (λ spares. length k.broken ≤ length spares) (sym same.spares) k.few;
  }

  -- nor does it hang on any other number than the shadow
  pub pages_over : (number' : ℕ → Number) (r : Enclave) (n : Number) → ((shadow : ℕ) → n.parent ≡ Some shadow → (number' shadow).pages ≡ (number_of shadow).pages)
      → PagesAre setup number_of r n → PagesAre setup number' r n
  pages_over number' r n same k = record {
    broken = k.broken;
    ahead = k.ahead;
    so_far = k.so_far;
    kinds = k.kinds ∙ ap (kinds_of n.pages n.spares k.broken) (sym (shared_same n.parent same));
    spares = k.spares;
    few = k.few;
  }
    where
      shared_same : (parent : Option ℕ) → ((shadow : ℕ) → parent ≡ Some shadow → (number' shadow).pages ≡ (number_of shadow).pages)
          → shared_by number' parent ≡ shared_by number_of parent
      shared_same None same = refl
      shared_same (Some shadow) same = ap Some (same shadow refl)

-- an event that changes one number, which has no forks or keeps its own pages
pub pages_frame : (setup : SetupParts) (e : ℕ) (rec rec' : ℕ → Enclave) (number number' : ℕ → Number) → ((f : ℕ) → f ≢ e → rec' f ≡ rec f)
    → ((f : ℕ) → f ≢ e → number' f ≡ number f)
    → ((f shadow : ℕ) → (number f).parent ≡ Some shadow → (number' shadow).pages ≡ (number shadow).pages)
    → PagesAgree setup rec number → PagesAre setup number' (rec' e) (number' e) → PagesAgree setup rec' number'
pages_frame setup e rec rec' number number' records numbers shadows old own = everywhere (λ f. PagesAre setup number' (rec' f) (number' f)) e own
    (λ f other. subst (PagesAre setup number' (rec' f)) (sym (numbers f other))
    (subst (λ r. PagesAre setup number' r (number f)) (sym (records f other)) (pages_over setup number number' (rec f) (number f) (shadows f) (old f))))

-- and one that changes only how one record stands, not the pages that its number was made of
pub pages_changed : (setup : SetupParts) (e : ℕ) (rec rec' : ℕ → Enclave) (number number' : ℕ → Number) (r' : Enclave) (n' : Number) → ((f : ℕ) → f ≢ e → rec' f ≡ rec f)
    → ((f : ℕ) → f ≢ e → number' f ≡ number f) → rec' e ≡ r' → number' e ≡ n' → n'.pages ≡ (number e).pages
    → PagesAgree setup rec number → PagesAre setup number r' n' → PagesAgree setup rec' number'
pages_changed setup e rec rec' number number' r' n' records numbers record_is number_is own_pages old own =
    pages_frame setup e rec rec' number number' records numbers (λ f shadow parent. same_pages shadow) old
    (subst (λ x. PagesAre setup number' x (number' e)) (sym record_is)
    (subst (PagesAre setup number' r') (sym number_is) (pages_over setup number number' r' n' (λ shadow parent. same_pages shadow) own)))
  where
    same_pages : (f : ℕ) → (number' f).pages ≡ (number f).pages
    same_pages = everywhere (λ f. (number' f).pages ≡ (number f).pages) e (ap (λ (m : Number). m.pages) number_is ∙ own_pages)
        (λ f other. ap (λ (m : Number). m.pages) (numbers f other))
