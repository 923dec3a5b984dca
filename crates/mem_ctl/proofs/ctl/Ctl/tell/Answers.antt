use Rattle.std.proofs.Common.{◌≡◌, ℕ, ◌*◌, ◌/◌, ◌%◌, List, rules, ap, ◌∙◌, sym, subst}
use Rattle.std.specs.Prelude.{true, Err}
use Rattle.std.specs.Fn.{FnReturnsAt}
use Rattle.byteorder.specs.Endian.{little_number}
use Rattle.pl_base.specs.Bytes.{bytes_at}
use Rattle.mem_geom.specs.Layout.{place_bytes}
use Rattle.mem_slots.specs.declared.slot_use.SlotUse.{SlotUse}
use Rattle.mem_slots.specs.Slots.{is_mounted, root_of}
use Rattle.mem_tree.specs.Checks.{check, Holds as AllHold}
use Rattle.mem_tree.specs.Paths.{first_break}
use Rattle.mem_tree.specs.Words.{taken_path}
use Rattle.mem_ctl.specs.declared.told.Told.TheVariants as told_is
use Rattle.mem_ctl.specs.declared.told.Op.{Op}
use Rattle.mem_ctl.specs.Calls.{TakenWord, op_offset, path_in, root_stands, tell_of, told}
use Rattle.mem_ctl.specs.Data.{CtlData, Again, Outcome, Value}
use Rattle.mem_ctl.specs.Mounting.{used, written}
use Rattle.mem_ctl.specs.Opened.{word_of_taken}
use Rattle.mem_ctl.specs.Results.{IsCall, checked_of}
use Rattle.mem_ctl.specs.Tellings.{told_outcome}
use Rattle.mem_ctl.specs.TreesHold.{IsKept}
use Rattle.mem_ctl.specs.Writes.{word_at}
use Rattle.mem_ctl.proofs.CallTells.{cause_of_telling, tell_tells}
use Rattle.mem_ctl.proofs.TellLemmas.{not_stale, stale, stands-mounted, tell_again, tell_gives, tell_refused, told-kept, told-mounted, told_broken, told_holds, told_stands}
use Rattle.mem_ctl.proofs.ctl.Ctl.tell.Given.{Over}
use Rattle.mem_ctl.proofs.ctl.Ctl.tell.Goals as goal

pub returns-then-is_stale : goal.returns-then-is_stale
returns-then-is_stale g c =
    let d = g.D.Digester.digest_of in
    let s = c.args.sealed.now in
    let x : CtlData = c.args.self.now.0 in
    let t : TakenWord = word_of_taken s in
    let o : Op = c.args.op in
    let gives : List SlotUse → ℕ → Type 0 = FnReturnsAt g.F.Fn c.args.self.now.1 in
    let kept : IsKept d x = subst (λ v. IsKept d v.0) c.self.view_is c.self.invariant in
    let h = stale (first_break d (taken_path s)) (root_stands s.root (root_of x.mounted (s.page / 64))) (sym c.is_stale.ensures ∙ c.if-is_stale.true) in
    let root : c.taken-taken.result.now.root ≡ s.root = ap (λ q. q.root) c.taken-taken.ensures.taken in
    let now : c.find.result ≡ root_of x.mounted (s.page / 64) =
    c.find.ensures ∙ ap (λ q. root_of c.self.inside.slots.mounted (q.page / 64)) c.taken-taken.ensures.taken ∙ ap (λ v. root_of v.0.mounted (s.page / 64)) c.self.view_is in
    let same : Again c.taken-taken.result.now.root c.find.result ≡ Again s.root (root_of x.mounted (s.page / 64)) = λ i. Again (root i) (now i) in
    let why = told_is.Again c.taken-taken.result.now.root c.find.result in
    let call : IsCall gives (tell_of d t o) x (told_outcome (Err why)) x = subst (λ (a : Outcome ℕ). IsCall gives (tell_of d t o) x a x) (sym same) (tell_again gives d x t o h.0 h.1) in
    let all = tell_tells gives d g.met.D.Digester.digest_length x kept t o c.requires.page c.taken-taken.ensures.in_range.block c.requires.op (told_outcome (Err why)) x call in
    record { call = call; word = tt; pages = tt; leaves = all.leaves; refused = search rules; cause = (cause_of_telling d t o x why x all.tells).1; choice = search rules }

pub returns-in-Err : goal.returns-in-Err
returns-in-Err g c =
    let d = g.D.Digester.digest_of in
    let s = c.args.sealed.now in
    let x : CtlData = c.args.self.now.0 in
    let i = c.self.inside in
    let t : TakenWord = word_of_taken s in
    let o : Op = c.args.op in
    let gives : List SlotUse → ℕ → Type 0 = FnReturnsAt g.F.Fn c.args.self.now.1 in
    let kept : IsKept d x = subst (λ v. IsKept d v.0) c.self.view_is c.self.invariant in
    let stands = not_stale (first_break d (taken_path s)) (root_stands s.root (root_of x.mounted (s.page / 64))) (sym c.is_stale.ensures ∙ c.if-is_stale.false) in
    let is : checked_of (Err c.in-Err.broken) ≡ check d (taken_path s) (place_bytes i.zones i.mirror) = search rules in
    let why = told_is.Broken c.in-Err.broken in
    let call : IsCall gives (tell_of d t o) x (told_outcome (Err why)) x =
    subst (λ (a : Outcome ℕ). IsCall gives (tell_of d t o) x a x) (sym (told_broken c.in-Err.broken))
    (tell_refused gives d x t o c.in-Err.broken stands (is ∙ ap (λ v. check d (taken_path s) (written v.0)) c.self.view_is)) in
    let all = tell_tells gives d g.met.D.Digester.digest_length x kept t o c.requires.page c.taken-taken.ensures.in_range.block c.requires.op (told_outcome (Err why)) x call in
    record { call = call; word = tt; pages = tt; leaves = all.leaves; refused = search rules; cause = (cause_of_telling d t o x why x all.tells).1; choice = search rules }

-- the check held, and so the path's root stands
check_held : (g : Over) (c : goal.After-obey-arg-1 g) → let d = g.D.Digester.digest_of in
    let s = c.args.sealed.now in
    let x : CtlData = c.args.self.now.0 in
    (AllHold ≡ check d (path_in (word_of_taken s)) (written x)) × (root_stands s.root (root_of x.mounted (s.page / 64)) ≡ true)
check_held g c =
    let d = g.D.Digester.digest_of in
    let s = c.args.sealed.now in
    let x : CtlData = c.args.self.now.0 in
    let i = c.self.inside in
    let is : AllHold ≡ check d (taken_path s) (place_bytes i.zones i.mirror) = search rules in
    let holds = is ∙ ap (λ v. check d (taken_path s) (written v.0)) c.self.view_is in
    (holds, told_stands d x (word_of_taken s) holds (sym c.is_stale.ensures ∙ c.if-is_stale.false))

pub obey-requires-clause-mounted : goal.obey-requires-clause-mounted
obey-requires-clause-mounted g c =
    let s = c.args.sealed.now in
    stands-mounted c.args.self.now.0 (s.page / 64) s.root (check_held g c).1

pub obey-requires-clause-holds : goal.obey-requires-clause-holds
obey-requires-clause-holds g c = told_holds g.D.Digester.digest_of c.args.self.now.0 (word_of_taken c.args.sealed.now) (check_held g c).0

pub obey-requires-clause-kept : goal.obey-requires-clause-kept
obey-requires-clause-kept g c =
    let d = g.D.Digester.digest_of in
    let kept : IsKept d c.args.self.now.0 = subst (λ v. IsKept d v.0) c.self.view_is c.self.invariant in
    let held = check_held g c in
    told-kept d g.met.D.Digester.digest_length c.args.self.now.0 kept (word_of_taken c.args.sealed.now) c.requires.page c.taken-taken.ensures.in_range.block held.1 held.0 c.args.op c.requires.op

pub count-requires : goal.count-requires
count-requires g c =
    let d = g.D.Digester.digest_of in
    let s = c.args.sealed.now in
    let x : CtlData = c.args.self.now.0 in
    let i = c.self.inside in
    let t : TakenWord = word_of_taken s in
    let o : Op = c.args.op in
    let kept : IsKept d x = subst (λ v. IsKept d v.0) c.self.view_is c.self.invariant in
    let is : AllHold ≡ check d (taken_path s) (place_bytes i.zones i.mirror) = search rules in
    let holds : AllHold ≡ check d (path_in t) (written x) = is ∙ ap (λ v. check d (taken_path s) (written v.0)) c.self.view_is in
    let stands = told_stands d x t holds (sym c.is_stale.ensures ∙ c.if-is_stale.false) in
    ap (λ q. is_mounted c.obey.new.self.0.mounted (q.page / 64)) c.taken-taken.ensures.taken ∙ ap (λ v. is_mounted v.0.mounted (s.page / 64)) c.obey.ensures
    ∙ told-mounted d g.met.D.Digester.digest_length x kept t c.requires.page c.taken-taken.ensures.in_range.block stands holds o

pub returns : goal.returns
returns g c =
    let d = g.D.Digester.digest_of in
    let s = c.args.sealed.now in
    let x : CtlData = c.args.self.now.0 in
    let i = c.self.inside in
    let t : TakenWord = word_of_taken s in
    let o : Op = c.args.op in
    let gives : List SlotUse → ℕ → Type 0 = FnReturnsAt g.F.Fn c.args.self.now.1 in
    let kept : IsKept d x = subst (λ v. IsKept d v.0) c.self.view_is c.self.invariant in
    let is : AllHold ≡ check d (taken_path s) (place_bytes i.zones i.mirror) = search rules in
    let holds : AllHold ≡ check d (path_in t) (written x) = is ∙ ap (λ v. check d (taken_path s) (written v.0)) c.self.view_is in
    let stands = told_stands d x t holds (sym c.is_stale.ensures ∙ c.if-is_stale.false) in
    let word : c.word_in-word.result ≡ little_number 8 (bytes_at s.block (op_offset o % 64 / 8 * 8) 8) =
    c.word_in-word.ensures ∙ ap (λ q. little_number 8 (bytes_at q.block c.word_start.result 8)) c.taken-taken.ensures.taken
    ∙ ap (λ (k : ℕ). little_number 8 (bytes_at s.block k 8)) c.word_start.ensures in
    let after : CtlData = c.count.new.self.0 in
    let new : after ≡ used (told d t o x) (s.page / 64) =
    ap (λ v. v.0) c.count.ensures ∙ ap (λ v. used v.0 (c.taken-taken.result.now.page / 64)) c.obey.ensures ∙ ap (λ q. used (told d t o x) (q.page / 64)) c.taken-taken.ensures.taken in
    let call : IsCall gives (tell_of d t o) x (Value c.word_in-word.result) after =
    subst (λ (a : ℕ). IsCall gives (tell_of d t o) x (Value a) after) (sym word)
    (subst (IsCall gives (tell_of d t o) x (Value (little_number 8 (bytes_at s.block (op_offset o % 64 / 8 * 8) 8)))) (sym new) (tell_gives gives d x t o stands holds)) in
    let all = tell_tells gives d g.met.D.Digester.digest_length x kept t o c.requires.page c.taken-taken.ensures.in_range.block c.requires.op (Value c.word_in-word.result) after call in
    record {
      call = call;
      word = all.tells.as_written;
      pages = all.tells.pages;
      leaves = all.leaves;
      refused = tt;
      cause = tt;
      choice = search rules;
    }
