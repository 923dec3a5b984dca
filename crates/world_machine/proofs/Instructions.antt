-- One instruction, from the record to the image run alone.
use Rattle.std.proofs.Common.{◌≡◌, ℕ, ◌+◌, ◌%◌, ◌==◌, Bool, true, false, cond, ltb, List, [], ◌∷◌, ◌++◌, length, get_or, Some, None, refl, ap, sym, ◌∙◌}
use Rattle.std.proofs.lemmas.Bool.{ltb-true, lt-ltb}
use Rattle.std.proofs.lemmas.List.{append-nil}
use Rattle.std.proofs.lemmas.Option.{slice_get_within, slice_get-get_or, get_or_from_slice_get}
use Rattle.pl_base.specs.declared.access.Kind.TheVariants as kind
use Rattle.pl_base.specs.Pages.{first_twice}
use Rattle.mem_geom.specs.Parts.{page_bytes}
use Rattle.mem_ctl.specs.Writes.{word_at}
use Rattle.mon_enclave.specs.declared.enclave.Enclave.{Enclave}
use Rattle.mon_enclave.specs.Records.{has_room, received_word}
use Rattle.mon_image.specs.declared.page.ImagePage.{ImagePage}
use Rattle.rv_alone.specs.declared.step.Act.{Act}
use Rattle.rv_alone.specs.declared.step.Act.TheVariants.{Set, Load, Store, Call, Trap}
use Rattle.rv_alone.specs.declared.step.Context.{Context}
use Rattle.rv_alone.specs.Effect.{act_of, advanced, loaded, loaded_value, with_register}
use Rattle.rv_alone.specs.Flat.{Flat, fetched, on, ended}
use Rattle.rv_alone.specs.Alone.{trap, wait, full, next, with_context, one, runs, acts, loads, stores, receives}
use Rattle.world_machine.specs.Pages.{flat_pages, numbers_of, part_of_word, word_offset}
use Rattle.world_machine.specs.Running.{retired_with}
use Rattle.world_machine.proofs.Alignment.{next_aligned, register_aligned}
use Rattle.world_machine.proofs.ByteBounds.{PagesAreBytes, located_bytes}
use Rattle.world_machine.proofs.FlatPages.{StoresInto, fetched_located, located, read_located, stored_located, stored_none}
use Rattle.world_machine.proofs.WordParts.{StaysInWord, part_in_page, stays_in_word}

-- the state that a record stands for, over the bytes of pages
abbrev pub flat_of : (ℕ → List ℕ) → List ImagePage → Enclave → Flat
flat_of bytes_of image r = record {
  regs = r.context.regs;
  pc = r.context.pc;
  pages = flat_pages bytes_of image (numbers_of r.pages);
  received = r.received;
  out = r.out;
  status = on;
}

-- ---- how an instruction retires

-- The record after an instruction that retired, over the bytes of pages then, is the next state. Nothing else of the record changed.
pub record Retires (image : List ImagePage) (before after : ℕ → List ℕ) (r now : Enclave) : Type 0 where
  pub outcome : one (flat_of before image r) r.sent ≡ next (flat_of after image now)
  pub kept : now ≡ record r { context = now.context; received = now.received; out = now.out; retired = now.retired }
  pub retired : now.retired ≡ r.retired + 1
  pub aligned : now.context.pc % 4 ≡ 0
  pub words : List ℕ
  pub grows : now.out ≡ r.out ++ words

-- The word at pc is this one, and pc is a multiple of 4.
pub record IsFetched (image : List ImagePage) (bytes_of : ℕ → List ℕ) (r : Enclave) (word : ℕ) (act : Act) : Type 0 where
  pub word_is : fetched (flat_pages bytes_of image (numbers_of r.pages)) r.context.pc ≡ Some word
  pub act_is : act_of r.context word ≡ act
  pub aligned : r.context.pc % 4 ≡ 0

module _ (image : List ImagePage) (bytes_of : ℕ → List ℕ) (r : Enclave) where
  -- no page lets the fetch through
  pub fetch_traps : located kind.Fetch image (numbers_of r.pages) r.context.pc ≡ None → one (flat_of bytes_of image r) r.sent ≡ trap 12 r.context.pc
  fetch_traps none = ap (runs (flat_of bytes_of image r) r.sent) (fetched_located bytes_of image (numbers_of r.pages) r.context.pc None none)

  module _ (word : ℕ) (act : Act) (is : IsFetched image bytes_of r word act) where
    -- an instruction by its act
    pub one_acts : one (flat_of bytes_of image r) r.sent ≡ acts (flat_of bytes_of image r) r.sent act
    one_acts = ap (runs (flat_of bytes_of image r) r.sent) is.word_is ∙ ap (acts (flat_of bytes_of image r) r.sent) is.act_is

  pub set_retires : (word : ℕ) (context : Context) → IsFetched image bytes_of r word (Set context) → context.pc % 4 ≡ 0 → Retires image bytes_of bytes_of r (retired_with r context)
  set_retires word context is aligned = record { outcome = one_acts word (Set context) is; kept = refl; retired = refl; aligned = aligned; words = []; grows = sym (append-nil r.out) }

  pub trap_traps : (word cause value : ℕ) → IsFetched image bytes_of r word (Trap cause value) → one (flat_of bytes_of image r) r.sent ≡ trap cause value
  trap_traps word cause value is = one_acts word (Trap cause value) is

  -- ---- loads and stores

  pub load_traps : (word address width : ℕ) (is_signed : Bool) (rd : ℕ) → IsFetched image bytes_of r word (Load address width is_signed rd)
      → located kind.Load image (numbers_of r.pages) address ≡ None → one (flat_of bytes_of image r) r.sent ≡ trap 13 address
  load_traps word address width is_signed rd is none =
      one_acts word (Load address width is_signed rd) is
      ∙ ap (loads (flat_of bytes_of image r) address width is_signed rd) (read_located bytes_of image (numbers_of r.pages) address width None none)

  pub store_traps : (word address width value : ℕ) → IsFetched image bytes_of r word (Store address width value)
      → located kind.Store image (numbers_of r.pages) address ≡ None → one (flat_of bytes_of image r) r.sent ≡ trap 15 address
  store_traps word address width value is none =
      one_acts word (Store address width value) is ∙ ap (stores (flat_of bytes_of image r) address) (stored_none bytes_of image (numbers_of r.pages) address width value none)

  -- the page that is located has other bytes after a store
  pub store_retires : (after : ℕ → List ℕ) (word address width value page : ℕ) → IsFetched image bytes_of r word (Store address width value)
      → located kind.Store image (numbers_of r.pages) address ≡ Some page → first_twice (numbers_of r.pages) ≡ None → StoresInto bytes_of after (numbers_of r.pages) page address width value
      → Retires image bytes_of after r (retired_with r (advanced r.context))
  store_retires after word address width value page is there apart writes = record {
    outcome = one_acts word (Store address width value) is
        ∙ ap (stores (flat_of bytes_of image r) address) (stored_located bytes_of after image (numbers_of r.pages) address width value page there apart writes);
    kept = refl;
    retired = refl;
    aligned = next_aligned r.context.pc is.aligned;
    words = [];
    grows = sym (append-nil r.out);
  }

  -- ---- ECALLs

  -- EXIT: the image has ended
  pub exit_ends : (word code : ℕ) → IsFetched image bytes_of r word (Call 1 code) → one (flat_of bytes_of image r) r.sent ≡ next (record (flat_of bytes_of image r) { status = ended code })
  exit_ends word code is = one_acts word (Call 1 code) is

  -- RECV, with a word that was sent and without
  pub receive_retires : (word value got : ℕ) → IsFetched image bytes_of r word (Call 2 value) → received_word r ≡ Some got
      → Retires image bytes_of bytes_of r (record (retired_with r (advanced (with_register r.context 10 got))) { received = r.received + 1 })
  receive_retires word value got is here =
      let below : ltb r.received (length r.sent) ≡ true = lt-ltb r.received (length r.sent) (slice_get_within r.sent r.received got here) in
      let taken : get_or r.sent r.received 0 ≡ got = get_or_from_slice_get r.sent r.received got 0 here in
      let a : Flat = flat_of bytes_of image r in
      record {
        outcome = one_acts word (Call 2 value) is
            ∙ ap (λ t. cond t (next (record (with_context a (advanced (with_register r.context 10 (get_or r.sent r.received 0)))) { received = r.received + 1 })) wait) below
            ∙ ap (λ x. next (record (with_context a (advanced (with_register r.context 10 x))) { received = r.received + 1 })) taken;
        kept = refl;
        retired = refl;
        aligned = register_aligned r.context 10 got is.aligned;
        words = [];
        grows = sym (append-nil r.out);
      }

  pub receive_waits : (word value : ℕ) → IsFetched image bytes_of r word (Call 2 value) → received_word r ≡ None → one (flat_of bytes_of image r) r.sent ≡ wait
  receive_waits word value is none = one_acts word (Call 2 value) is ∙ waits (ltb r.received (length r.sent)) refl
    where
      waits : (t : Bool) → ltb r.received (length r.sent) ≡ t → receives (flat_of bytes_of image r) r.sent ≡ wait
      waits true there = let some = slice_get-get_or r.sent r.received 0 (ltb-true r.received (length r.sent) there) in let h : None ≡ Some (get_or r.sent r.received 0) = sym none ∙ some in cc
      waits false past = rw past refl

  -- SEND, with room for the word and without
  pub send_retires : (word value : ℕ) → IsFetched image bytes_of r word (Call 3 value) → has_room r ≡ true
      → Retires image bytes_of bytes_of r (record (retired_with r (advanced r.context)) { out = r.out ++ value ∷ [] })
  send_retires word value is room =
      let a : Flat = flat_of bytes_of image r in
      record {
        outcome = one_acts word (Call 3 value) is ∙ ap (λ t. cond t (next (record (with_context a (advanced r.context)) { out = r.out ++ value ∷ [] })) full) room;
        kept = refl;
        retired = refl;
        aligned = next_aligned r.context.pc is.aligned;
        words = value ∷ [];
        grows = refl;
      }

  pub send_full : (word value : ℕ) → IsFetched image bytes_of r word (Call 3 value) → has_room r ≡ false → one (flat_of bytes_of image r) r.sent ≡ full
  send_full word value is none =
      one_acts word (Call 3 value) is ∙ ap (λ t. cond t (next (record (with_context (flat_of bytes_of image r) (advanced r.context)) { out = r.out ++ value ∷ [] })) full) none

  -- any other call traps
  pub call_traps : (word number value : ℕ) → IsFetched image bytes_of r word (Call number value) → (number == 1) ≡ false → (number == 2) ≡ false → (number == 3) ≡ false
      → one (flat_of bytes_of image r) r.sent ≡ trap 8 number
  call_traps word number value is one_not two_not three_not = one_acts word (Call number value) is ∙ rw (one_not, two_not, three_not) refl

-- ---- what is read through the trees: eight bytes of a page, as last written

module _ (image : List ImagePage) (memory : List ℕ) (r : Enclave) (small : PagesAreBytes (flat_pages (page_bytes memory) image (numbers_of r.pages))) where
  -- the fetched word is a part of them
  pub word_fetched : (page eight : ℕ) → located kind.Fetch image (numbers_of r.pages) r.context.pc ≡ Some page → r.context.pc % 4 ≡ 0 → eight ≡ word_at memory page (word_offset r.context.pc)
      → fetched (flat_pages (page_bytes memory) image (numbers_of r.pages)) r.context.pc ≡ Some (part_of_word eight r.context.pc 4)
  word_fetched page eight there aligned is =
      fetched_located (page_bytes memory) image (numbers_of r.pages) r.context.pc (Some page) there
      ∙ ap Some (sym (ap (λ x. part_of_word x r.context.pc 4) is
      ∙ part_in_page memory page r.context.pc 4 (located_bytes (page_bytes memory) image (numbers_of r.pages) kind.Fetch r.context.pc page small there) (stays_in_word r.context.pc 4 refl aligned)))

  pub load_retires : (word address width : ℕ) (is_signed : Bool) (rd page eight : ℕ) → IsFetched image (page_bytes memory) r word (Load address width is_signed rd)
      → located kind.Load image (numbers_of r.pages) address ≡ Some page → StaysInWord address width → eight ≡ word_at memory page (word_offset address)
      → Retires image (page_bytes memory) (page_bytes memory) r (retired_with r (loaded r.context rd width is_signed (part_of_word eight address width)))
  load_retires word address width is_signed rd page eight is there stays eight_is =
      let a : Flat = flat_of (page_bytes memory) image r in
      record {
        outcome = one_acts image (page_bytes memory) r word (Load address width is_signed rd) is
            ∙ ap (loads a address width is_signed rd) (read_located (page_bytes memory) image (numbers_of r.pages) address width (Some page) there)
            ∙ ap (λ raw. next (with_context a (loaded r.context rd width is_signed raw))) (sym (ap (λ x. part_of_word x address width) eight_is
            ∙ part_in_page memory page address width (located_bytes (page_bytes memory) image (numbers_of r.pages) kind.Load address page small there) stays));
        kept = refl;
        retired = refl;
        aligned = register_aligned r.context rd (loaded_value width is_signed (part_of_word eight address width)) is.aligned;
        words = [];
        grows = sym (append-nil r.out);
      }
