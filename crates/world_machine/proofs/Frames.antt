-- An event that changes one enclave number leaves what holds of every other one, and of the lines of other harts.
use Rattle.std.proofs.Common.{◌≡◌, ◌≢◌, ℕ, ◌+◌, ◌-◌, ◌<◌, ltb, Bool, true, false, List, [], ◌∷◌, length, get_or, slice_get, Option, Some, refl, sym, ap, ◌∙◌, subst, arith, inl, inr, unwrap_or}
use Rattle.std.proofs.lemmas.Bool.Decides.{nat_tests}
use Rattle.std.specs.List.{All, AllByRecursion}
use Rattle.std.proofs.lemmas.List.{length-map}
use Rattle.std.proofs.lemmas.List.Elements.{All-from_recursion, All-get_or, All-weaker, recursion_from_All}
use Rattle.std.proofs.lemmas.Bool.{cases_Bool}
use Rattle.pl_base.specs.States.{is_free}
use Rattle.pl_base.specs.declared.number.EncNo.{EncNo}
use Rattle.pl_base.specs.declared.access.Kind.{Kind}
use Rattle.pl_base.specs.declared.access.Kind.TheVariants as kind
use Rattle.rv_alone.specs.declared.step.Context.{Context}
use Rattle.rv_alone.specs.Effect.{act_of}
use Rattle.rv_alone.specs.Flat.{fetched}
use Rattle.rv_hart.specs.declared.walks.Micro.{Micro}
use Rattle.rv_hart.specs.declared.walks.Micro.TheVariants.{Fetching, Reaching, Faulting}
use Rattle.rv_hart.specs.declared.walks.Walk.TheVariants.{Start}
use Rattle.mon_enclave.specs.declared.enclave.Enclave.{Enclave}
use Rattle.mon_enclave.specs.declared.enclave.PageKind.{PageKind}
use Rattle.mon_enclave.specs.declared.enclave.PageKind.TheVariants.{Own, Shared}
use Rattle.mon_enclave.specs.Records.{page_number_of}
use Rattle.mon_image.specs.declared.image.Image.{Image}
use Rattle.mon_image.specs.declared.page.ImagePage.{ImagePage}
use Rattle.mon_life.specs.Pages.{PagePut, page_put_at}
use Rattle.mon_life.specs.Putting.{steps_of}
use Rattle.mon_owner.specs.declared.owners.Owner.{Owner}
use Rattle.mon_tables.specs.Tables.{table_number}
use Rattle.pl_history.specs.declared.line.Line.{Line}
use Rattle.pl_history.specs.declared.line.Line.TheVariants.{Load, Store, Unmap, Create, Shadow, Fork, Run, Resume, Destroy}
use Rattle.pl_history.specs.declared.setup.SetupParts.{SetupParts}
use Rattle.pl_history.specs.Monitor.{Number}
use Rattle.world_machine.specs.declared.under.Under.{Under}
use Rattle.world_machine.specs.declared.under.Under.TheVariants.{Idle, Seeking, Removing, Destroying, Putting, Running, Breaking}
use Rattle.world_machine.specs.EnclavesAgree.{EnclaveStands, EnclavesAgree, IsOwnOrShared, IsOwn, StateStands}
use Rattle.world_machine.specs.LinesUnderWay.{InstructionStands, IsAccessed, IsBuilding, IsForking, IsPutting, IsRestarting, IsRunning, LineUnderWay, MakesAccess, access_of, first_table_step, number_under_way}
use Rattle.world_machine.specs.Making.{image_of}
use Rattle.world_machine.specs.Pages.{flat_pages, numbers_of, reached}
use Rattle.world_machine.specs.RecordsAgree.{RecordAgrees, RecordsAgree}
use Rattle.world_machine.proofs.Lists.{everywhere}
use Rattle.mon_life.proofs.StepLemmas.{image_stands, tables_stand}
use Rattle.world_machine.proofs.PutPages.{image_page}

-- pages of which the listed ones have the same bytes
pub flat_pages-same : (bytes bytes' : ℕ → List ℕ) (image : List ImagePage) (numbers : List ℕ) → AllByRecursion (λ page. bytes' page ≡ bytes page) numbers
    → flat_pages bytes' image numbers ≡ flat_pages bytes image numbers
flat_pages-same bytes bytes' [] numbers same = refl
flat_pages-same bytes bytes' (page ∷ image) [] same = refl
flat_pages-same bytes bytes' (page ∷ image) (number ∷ numbers) same =
    λ i. record { perms = page.perms; bytes = same.0 i } ∷ flat_pages-same bytes bytes' image numbers same.1 i

-- what holds of the next instruction holds of it in a record with the same context, where the pages have the same bytes
module _ (image : List ImagePage) (before after : ℕ → List ℕ) (r r' : Enclave) (context : r'.context ≡ r.context)
    (bytes : flat_pages after image (numbers_of r'.pages) ≡ flat_pages before image (numbers_of r.pages)) where
  makes_still : (word : ℕ) (access : Kind × ℕ) → MakesAccess image before r word access → MakesAccess image after r' word access
  makes_still word access k = record {
    word_is = ap (λ (c : Context). fetched (flat_pages after image (numbers_of r'.pages)) c.pc) context ∙ ap (λ pages. fetched pages r.context.pc) bytes ∙ k.word_is;
    access_is = ap (λ (c : Context). access_of (act_of c word)) context ∙ k.access_is;
  }

  pub accessed_still : (va : ℕ) (access : Kind) → IsAccessed image before r va access → IsAccessed image after r' va access
  accessed_still va kind.Fetch k = k ∙ sym (ap (λ (c : Context). c.pc) context)
  accessed_still va kind.Load k = (k.0, makes_still k.0 (kind.Load, va) k.1)
  accessed_still va kind.Store k = (k.0, makes_still k.0 (kind.Store, va) k.1)

  pub instruction_stays : r'.pages ≡ r.pages → (micro : Micro) → InstructionStands image before r micro → InstructionStands image after r' micro
  instruction_stays kinds (Fetching walk) k = tt
  instruction_stays kinds (Reaching word walk) k = (k.0, makes_still word k.0 k.1)
  instruction_stays kinds (Faulting va access) k = (accessed_still va access k.0, ap (λ pages. reached access image pages va) kinds ∙ k.1)

-- an image's state stands over other bytes that are the same in its pages
pub state_over : (setup : SetupParts) (bytes bytes' : ℕ → List ℕ) (image : Image) (r : Enclave) (n : Number) → flat_pages bytes' image.pages (numbers_of r.pages) ≡ flat_pages bytes image.pages (numbers_of r.pages)
    → StateStands setup bytes image r n → StateStands setup bytes' image r n
state_over setup bytes bytes' image r n same k = record {
  now = k.now;
  alone_is = k.alone_is;
  context = k.context;
  received = k.received;
  out = k.out;
  status = k.status;
  aligned = k.aligned;
  taken_few = k.taken_few;
  shown_few = k.shown_few;
  shown = k.shown;
  pages = λ made. k.pages made ∙ sym same;
  start = k.start;
}

-- a shadow has no steps for tables
pub few_steps : (shadow : Bool) (pages done : ℕ) → done < steps_of shadow pages → done < pages + 3
few_steps true pages done few = omega arith
few_steps false pages done few = few

-- What an event leaves of every number but e: its record, its state in the monitor, who owns its pages, and the bytes of these and of its
-- tables, as last written.
pub record Frame (setup : SetupParts) (e : ℕ) (rec rec' : ℕ → Enclave) (number number' : ℕ → Number) (bytes bytes' : ℕ → List ℕ) (owners owners' : List Owner) : Type 0 where
  pub records : (f : ℕ) → f ≢ e → rec' f ≡ rec f
  pub numbers : (f : ℕ) → f ≢ e → number' f ≡ number f
  pub owned : (f page : ℕ) → f ≢ e → IsOwn owners f page → IsOwn owners' f page
  pub own_bytes : (f page : ℕ) → f ≢ e → IsOwn owners f page → bytes' page ≡ bytes page
  pub table_bytes : (f level : ℕ) → f ≢ e → f < setup.enclaves → level < 3 → bytes' (table_number setup.tables f level) ≡ bytes (table_number setup.tables f level)
  -- no other number was forked from it
  pub childless : (f : ℕ) (shadow : EncNo) → f ≢ e → (rec f).parent ≡ Some shadow → shadow.0 ≢ e

module _ (setup : SetupParts) (e : ℕ) (rec rec' : ℕ → Enclave) (number number' : ℕ → Number) (bytes bytes' : ℕ → List ℕ) (owners owners' : List Owner)
    (frame : Frame setup e rec rec' number number' bytes bytes' owners owners') where
  -- ---- records

  pub records_frame : RecordsAgree rec number → RecordAgrees (rec' e) (number' e) → RecordsAgree rec' number'
  records_frame old own = everywhere (λ f. RecordAgrees (rec' f) (number' f)) e own
      (λ f other. subst (RecordAgrees (rec' f)) (sym (frame.numbers f other)) (subst (λ r. RecordAgrees r (number f)) (sym (frame.records f other)) (old f)))

  -- ---- enclaves

  -- a page of another number, its own or shared, stays
  held_bytes : (f : ℕ) (kind : PageKind) → f ≢ e → IsOwnOrShared owners f (rec f).parent kind → bytes' (page_number_of kind) ≡ bytes (page_number_of kind)
  held_bytes f (Own page) other own = frame.own_bytes f page other own
  held_bytes f (Shared page) other (shadow, parent, own) = frame.own_bytes shadow.0 page (frame.childless f shadow other parent) own

  held_stays : (f : ℕ) (kind : PageKind) → f ≢ e → IsOwnOrShared owners f (rec f).parent kind → IsOwnOrShared owners' f (rec f).parent kind
  held_stays f (Own page) other own = frame.owned f page other own
  held_stays f (Shared page) other (shadow, parent, own) = (shadow, parent, frame.owned shadow.0 page (frame.childless f shadow other parent) own)

  same_bytes : (f : ℕ) (kinds : List PageKind) → f ≢ e → AllByRecursion (IsOwnOrShared owners f (rec f).parent) kinds → AllByRecursion (λ page. bytes' page ≡ bytes page) (numbers_of kinds)
  same_bytes f [] other own = tt
  same_bytes f (kind ∷ kinds) other own = (held_bytes f kind other own.0, same_bytes f kinds other own.1)

  pub still_held : (f : ℕ) (kinds : List PageKind) → f ≢ e → All (IsOwnOrShared owners f (rec f).parent) kinds → All (IsOwnOrShared owners' f (rec f).parent) kinds
  still_held f kinds other own = All-weaker (IsOwnOrShared owners f (rec f).parent) (IsOwnOrShared owners' f (rec f).parent) (λ kind here. held_stays f kind other here) kinds own

  -- the pages of another number as the flat machine has them
  pub same_pages : (f : ℕ) (image : List ImagePage) (kinds : List PageKind) → f ≢ e → All (IsOwnOrShared owners f (rec f).parent) kinds
      → flat_pages bytes' image (numbers_of kinds) ≡ flat_pages bytes image (numbers_of kinds)
  same_pages f image kinds other own =
      flat_pages-same bytes bytes' image (numbers_of kinds) (same_bytes f kinds other (recursion_from_All (IsOwnOrShared owners f (rec f).parent) kinds own))

  enclave_other : (f : ℕ) → f ≢ e → EnclaveStands setup bytes owners f (rec f) (number f) → EnclaveStands setup bytes' owners' f (rec f) (number f)
  enclave_other f other k = record {
    image = k.image;
    image_is = k.image_is;
    held = record { count = k.held.count; apart = k.held.apart; owned = still_held f (rec f).pages other k.held.owned };
    state = state_over setup bytes bytes' k.image (rec f) (number f) (same_pages f k.image.pages (rec f).pages other k.held.owned) k.state;
  }

  pub enclaves_frame : EnclavesAgree setup bytes owners rec number → (is_free (rec' e).state ≡ false → EnclaveStands setup bytes' owners' e (rec' e) (number' e))
      → EnclavesAgree setup bytes' owners' rec' number'
  enclaves_frame old own = everywhere (λ f. is_free (rec' f).state ≡ false → EnclaveStands setup bytes' owners' f (rec' f) (number' f)) e own
      (λ f other used. subst (EnclaveStands setup bytes' owners' f (rec' f)) (sym (frame.numbers f other))
      (subst (λ r. EnclaveStands setup bytes' owners' f r (number f)) (sym (frame.records f other))
      (enclave_other f other (old f (subst (λ (r : Enclave). is_free r.state ≡ false) (frame.records f other) used)))))

  -- ---- lines of other harts

  -- the page that a step of another number put
  put_other : (f at : ℕ) (image : Image) → f ≢ e → f < setup.enclaves → at < length image.pages + 3 → length (rec f).pages ≡ length image.pages
      → All (IsOwnOrShared owners f (rec f).parent) (rec f).pages → bytes' (page_put_at setup.tables f image (rec f).pages at).page ≡ bytes (page_put_at setup.tables f image (rec f).pages at).page
  put_other f at image other there few count own = elim (cases_Bool (ltb at (length image.pages))) [
    | inl within ↦
        let below : at < length (rec f).pages = grind (arith, nat_tests) in
        let inside : at < length (numbers_of (rec f).pages) = subst (λ n. at < n) (sym (length-map (rec f).pages page_number_of)) below in
        let page_is : (page_put_at setup.tables f image (rec f).pages at).page ≡ get_or (numbers_of (rec f).pages) at 0
        = ap (λ (p : PagePut). p.page) (image_stands setup.tables f image (rec f).pages at (grind (arith, nat_tests))) ∙ image_page setup.tables f image (rec f).pages at below in
        subst (λ page. bytes' page ≡ bytes page) (sym page_is)
        (All-get_or (λ page. bytes' page ≡ bytes page) (numbers_of (rec f).pages) at 0 inside
        (All-from_recursion (λ page. bytes' page ≡ bytes page) (numbers_of (rec f).pages) (same_bytes f (rec f).pages other (recursion_from_All (IsOwnOrShared owners f (rec f).parent) (rec f).pages own))))
    | inr past ↦
        let page_is : (page_put_at setup.tables f image (rec f).pages at).page ≡ table_number setup.tables f (2 - (at - length image.pages))
        = ap (λ (p : PagePut). p.page) (tables_stand setup.tables f image (rec f).pages at (grind (arith, nat_tests))) in
        subst (λ page. bytes' page ≡ bytes page) (sym page_is) (frame.table_bytes f (2 - (at - length image.pages)) other there (omega arith))
  ]

  running_other : (f hart budget count : ℕ) (micro : Micro) → f ≢ e → All (IsOwnOrShared owners f (rec f).parent) (rec f).pages
      → IsRunning setup bytes (rec f) (number f) hart budget count micro → IsRunning setup bytes' (rec' f) (number' f) hart budget count micro
  running_other f hart budget count micro other own k =
      subst (λ n. IsRunning setup bytes' (rec' f) n hart budget count micro) (sym (frame.numbers f other))
      (subst (λ r. IsRunning setup bytes' r (number f) hart budget count micro) (sym (frame.records f other))
      (record {
        state = k.state;
        hart_is = k.hart_is;
        within = k.within;
        retired = k.retired;
        instruction = instruction_stays (image_of setup (rec f).image).pages bytes bytes' (rec f) (rec f) refl
            (same_pages f (image_of setup (rec f).image).pages (rec f).pages other own) refl micro k.instruction;
      }))

  putting_other : (f image : ℕ) (shadow : Bool) (first done : ℕ) → f ≢ e → f < setup.enclaves → length (rec f).pages ≡ length (image_of setup image).pages
      → All (IsOwnOrShared owners f (rec f).parent) (rec f).pages → IsPutting setup bytes (rec f) f image shadow first done → IsPutting setup bytes' (rec f) f image shadow first done
  putting_other f image shadow first done other there count own k = record {
    state = k.state;
    image_is = k.image_is;
    few = k.few;
    put = λ at from below.
        let few : done < length (image_of setup image).pages + 3 = few_steps shadow (length (image_of setup image).pages) done k.few in
        put_other f at (image_of setup image) other there (omega arith) count own ∙ k.put at from below;
  }

  -- the lines of harts whose number under way is another
  module _ (enclaves : EnclavesAgree setup bytes owners rec number) (there : (f : ℕ) → is_free (rec f).state ≡ false → f < setup.enclaves) where
    putting_there : (f image : ℕ) (shadow : Bool) (first done : ℕ) → IsPutting setup bytes (rec f) f image shadow first done → f ≢ e → IsPutting setup bytes' (rec f) f image shadow first done
    putting_there f image shadow first done k other =
        let used : is_free (rec f).state ≡ false = ap is_free k.state in
        let stands = enclaves f used in
        let image_is : image_of setup image ≡ stands.image = ap (λ n. image_of setup n) (sym k.image_is) ∙ ap (λ (o : Option Image). unwrap_or o (record { entry = 0; pages = [] })) stands.image_is in
        putting_other f image shadow first done other (there f used) (stands.held.count ∙ ap (λ (i : Image). length i.pages) (sym image_is)) stands.held.owned k

    building_there : (f image : ℕ) (shadow : Bool) (pages : List ℕ) (done : ℕ) → IsBuilding setup bytes (rec f) f image shadow pages done → f ≢ e
        → IsBuilding setup bytes' (rec' f) f image shadow pages done
    building_there f image shadow pages done k other =
        subst (λ r. IsBuilding setup bytes' r f image shadow pages done) (sym (frame.records f other))
        (record { pages_are = k.pages_are; putting = putting_there f image shadow 0 done k.putting other })

    forking_there : (f done : ℕ) → IsForking setup bytes (rec f) f done → f ≢ e → IsForking setup bytes' (rec' f) f done
    forking_there f done k other =
        subst (λ r. IsForking setup bytes' r f done) (sym (frame.records f other))
        (record { forked = k.forked; shared = k.shared; from = k.from; putting = putting_there f (rec f).image false (first_table_step setup (rec f)) done k.putting other })

    running_there : (f hart budget count : ℕ) (micro : Micro) → IsRunning setup bytes (rec f) (number f) hart budget count micro → f ≢ e
        → IsRunning setup bytes' (rec' f) (number' f) hart budget count micro
    running_there f hart budget count micro k other =
        running_other f hart budget count micro other (enclaves f (ap is_free k.state)).held.owned k

    restarting_there : (f hart budget count index : ℕ) → IsRestarting setup bytes (rec f) (number f) hart budget count index → f ≢ e
        → IsRestarting setup bytes' (rec' f) (number' f) hart budget count index
    restarting_there f hart budget count index k other = record {
      running = running_there f hart budget count (Fetching Start) k.running other;
      va = k.va;
      stores = subst (λ r. IsAccessed (image_of setup r.image).pages bytes' r k.va kind.Store) (sym (frame.records f other))
          (accessed_still (image_of setup (rec f).image).pages bytes bytes' (rec f) (rec f) refl
          (same_pages f (image_of setup (rec f).image).pages (rec f).pages other (enclaves f (ap is_free k.running.state)).held.owned) k.va kind.Store k.stores);
      place = k.place;
      page = k.page;
      own = ap (λ (r : Enclave). slice_get r.pages index) (frame.records f other) ∙ k.own;
    }

    pub line_frame : (hart : ℕ) (line : Option Line) (under : Under) → ((f : ℕ) → number_under_way line under ≡ Some f → f ≢ e)
        → LineUnderWay setup bytes rec number hart line under → LineUnderWay setup bytes' rec' number' hart line under
    line_frame hart line Idle apart k = tt
    line_frame hart (Some (Load va)) (Seeking walk) apart k = k
    line_frame hart (Some (Store va word)) (Seeking walk) apart k = k
    line_frame hart (Some (Unmap va)) (Removing page) apart k = tt
    line_frame hart (Some (Create f image pages)) (Putting done) apart k = building_there f.0 image false pages done k (apart f.0 refl)
    line_frame hart (Some (Shadow f image pages)) (Putting done) apart k = building_there f.0 image true pages done k (apart f.0 refl)
    line_frame hart (Some (Fork shadow f pages)) (Putting done) apart k = forking_there f.0 done k (apart f.0 refl)
    line_frame hart (Some (Run f budget)) (Running micro count) apart k = running_there f.0 hart budget count micro k (apart f.0 refl)
    line_frame hart (Some (Run f budget)) (Breaking count index) apart k = restarting_there f.0 hart budget count index k (apart f.0 refl)
    line_frame hart (Some (Resume f budget)) (Running micro count) apart k = running_there f.0 hart budget count micro k (apart f.0 refl)
    line_frame hart (Some (Resume f budget)) (Breaking count index) apart k = restarting_there f.0 hart budget count index k (apart f.0 refl)
    line_frame hart (Some (Destroy f)) Destroying apart k = ap (λ (r : Enclave). r.state) (frame.records f.0 (apart f.0 refl)) ∙ k
    line_frame hart line under apart k = elim k [ ]
