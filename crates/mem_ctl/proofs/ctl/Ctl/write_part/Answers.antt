use Rattle.std.proofs.Common.{◌≡◌, ℕ, ◌/◌, ◌%◌, ◌<◌, List, rules, arith, ap, ◌∙◌, sym, subst}
use Rattle.std.specs.Prelude.{Err}
use Rattle.std.specs.Fn.{FnReturnsAt}
use Rattle.byteorder.specs.Endian.{little_bytes}
use Rattle.pl_base.specs.Bytes.{with_bytes}
use Rattle.mem_geom.specs.PathPlaces.{word_places}
use Rattle.mem_slots.specs.declared.slot_use.SlotUse.{SlotUse}
use Rattle.mem_ctl.specs.Access.{BothChange}
use Rattle.mem_ctl.specs.Calls.{with_part, write_part_of}
use Rattle.mem_ctl.specs.Data.{CtlData, Value}
use Rattle.mem_ctl.specs.Mounting.{taken}
use Rattle.mem_ctl.specs.Results.{IsCall, outcome_of}
use Rattle.mem_ctl.specs.TreesHold.{IsKept}
use Rattle.mem_ctl.proofs.AccessCalls.{access_opened, access_refused}
use Rattle.mem_ctl.proofs.CallTells.{cause_of, write_tells}
use Rattle.mem_ctl.proofs.ReadLemmas.{opened-holds, opened-path, opened-stored, opened-stored_kept}
use Rattle.mem_ctl.proofs.WordCalls.{part_fits}
use Rattle.mem_ctl.proofs.ctl.Ctl.write_part.Goals as goal

pub with_part-path-requires-clause-holds : goal.with_part-path-requires-clause-holds
with_part-path-requires-clause-holds g c =
    let kept : IsKept g.D.Digester.digest_of c.args.self.now.0 = subst (λ v. IsKept g.D.Digester.digest_of v.0) c.self.view_is c.self.invariant in
    opened-holds g.D.Digester.digest_of g.met.D.Digester.digest_length (FnReturnsAt g.F.Fn c.args.self.now.1) c.args.self.now.0 kept c.args.page c.requires.page (c.args.offset / 64) (omega (arith, c.requires.offset)) c.in-Ok.sealed c.open_word.new.self.0 c.in-Ok.ensures.ok

pub store-requires-clause-kept : goal.store-requires-clause-kept
store-requires-clause-kept g c =
    let d = g.D.Digester.digest_of in
    let law = g.met.D.Digester.digest_length in
    let old : CtlData = c.args.self.now.0 in
    let new : CtlData = c.open_word.new.self.0 in
    let gives : List SlotUse → ℕ → Type 0 = FnReturnsAt g.F.Fn c.args.self.now.1 in
    let kept : IsKept d old = subst (λ v. IsKept d v.0) c.self.view_is c.self.invariant in
    let h = c.in-Ok.ensures.ok in
    let t = c.in-Ok.sealed in
    let at : ℕ = c.args.offset % 64 in
    let part : List ℕ = little_bytes c.args.width c.args.value in
    let path = c.with_part-path.result in
    let below : c.args.offset / 64 < 64 = omega (arith, c.requires.offset) in
    let is = opened-path d law gives old kept c.args.page c.requires.page (c.args.offset / 64) below t new h at part path (search rules) in
    opened-stored_kept d law gives old kept c.args.page c.requires.page (c.args.offset / 64) below t new h at part (part_fits c.args.width c.args.offset c.args.value c.requires.width c.requires.aligned) path is

pub returns-in-Ok : goal.returns-in-Ok
unfolding write_part_of
returns-in-Ok g c =
    let d = g.D.Digester.digest_of in
    let law = g.met.D.Digester.digest_length in
    let page : ℕ = c.args.page in
    let offset : ℕ = c.args.offset in
    let b : ℕ = offset / 64 in
    let old : CtlData = c.args.self.now.0 in
    let new : CtlData = c.open_word.new.self.0 in
    let after : CtlData = c.store.new.self.0 in
    let kept : IsKept d old = subst (λ v. IsKept d v.0) c.self.view_is c.self.invariant in
    let gives : List SlotUse → ℕ → Type 0 = FnReturnsAt g.F.Fn c.args.self.now.1 in
    let h = c.in-Ok.ensures.ok in
    let t = c.in-Ok.sealed in
    let at : ℕ = offset % 64 in
    let part : List ℕ = little_bytes c.args.width c.args.value in
    let path = c.with_part-path.result in
    let inside = part_fits c.args.width offset c.args.value c.requires.width c.requires.aligned in
    let is = opened-path d law gives old kept page c.requires.page b (omega (arith, c.requires.offset)) t new h at part path (search rules) in
    let change = λ (x : CtlData). with_part d (taken x) page b at part x in
    let done : change new ≡ after = opened-stored d law gives old kept page c.requires.page b (omega (arith, c.requires.offset)) t new h at part inside path is ∙ sym (ap (λ v. v.0) c.store.ensures) in
    let call : IsCall gives (write_part_of d page offset c.args.width c.args.value) old (Value tt) after =
    subst (IsCall gives (write_part_of d page offset c.args.width c.args.value) old (Value tt)) done
    (access_opened gives d page (word_places page b) (λ (x : CtlData). tt {0}) change old h.between new h.mounts h.now h.holds) in
    let all = write_tells gives d law old kept page offset c.args.width c.args.value c.requires.page c.requires.offset c.requires.width c.requires.aligned (Value tt) after call in
    record { call = call; pages = all.tells; whole = all.whole; stay = tt; leaves = all.leaves; cause = tt; choice = search rules }

pub returns-in-Err : goal.returns-in-Err
unfolding write_part_of
returns-in-Err g c =
    let d = g.D.Digester.digest_of in
    let page : ℕ = c.args.page in
    let offset : ℕ = c.args.offset in
    let places = word_places page (offset / 64) in
    let old : CtlData = c.args.self.now.0 in
    let new : CtlData = c.open_word.new.self.0 in
    let kept : IsKept d old = subst (λ v. IsKept d v.0) c.self.view_is c.self.invariant in
    let b = c.in-Err.broken in
    let gives : List SlotUse → ℕ → Type 0 = FnReturnsAt g.F.Fn c.args.self.now.1 in
    let part : List ℕ = little_bytes c.args.width c.args.value in
    let call : IsCall gives (write_part_of d page offset c.args.width c.args.value) old (outcome_of (Err b)) new =
    access_refused gives d {A = Unit {0}} page places (λ (x : CtlData). tt) (λ (x : CtlData). with_part d (taken x) page (offset / 64) (offset % 64) part x) old b new c.in-Err.ensures.err in
    let all = write_tells gives d g.met.D.Digester.digest_length old kept page offset c.args.width c.args.value c.requires.page c.requires.offset c.requires.width c.requires.aligned (outcome_of (Err b)) new call in
    let why = cause_of d places (λ (done : Unit {0}). BothChange page (λ (bytes : List ℕ). with_bytes bytes offset part) old new) old b new all.tells in
    record { call = call; pages = tt; whole = tt; stay = why.0; leaves = all.leaves; cause = why.1; choice = search rules }
