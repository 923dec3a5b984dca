use Rattle.std.proofs.Common.{ℕ, List, [], rules, subst}
use Rattle.std.specs.Prelude.{Err}
use Rattle.std.specs.Fn.{FnReturnsAt}
use Rattle.mem_slots.specs.declared.slot_use.SlotUse.{SlotUse}
use Rattle.mem_ctl.specs.Calls.{TakenWord, ask_of}
use Rattle.mem_ctl.specs.Data.{CtlData, Value}
use Rattle.mem_ctl.specs.Laws.{PathIsTaken}
use Rattle.mem_ctl.specs.Opened.{word_of_taken}
use Rattle.mem_ctl.specs.Results.{IsCall, outcome_of}
use Rattle.mem_ctl.specs.TreesHold.{IsKept}
use Rattle.mem_ctl.proofs.AskLemmas.{ask_gives, ask_stops, asked_broken}
use Rattle.mem_ctl.proofs.CallTells.{ask_tells, cause_of}
use Rattle.mem_ctl.proofs.ctl.Ctl.ask.Goals as goal

pub returns-in-Err : goal.returns-in-Err
returns-in-Err g c =
    let d = g.D.Digester.digest_of in
    let page : ℕ = c.args.page in
    let old : CtlData = c.args.self.now.0 in
    let new : CtlData = c.mount.new.self.0 in
    let kept : IsKept d old = subst (λ v. IsKept d v.0) c.self.view_is c.self.invariant in
    let b = c.in-Err.broken in
    let gives : List SlotUse → ℕ → Type 0 = FnReturnsAt g.F.Fn c.args.self.now.1 in
    let call : IsCall gives (ask_of d page c.args.offset) old (outcome_of {A = TakenWord} (Err b)) new = ask_stops gives d page c.args.offset old b new c.in-Err.ensures.call in
    let all = ask_tells gives d g.met.D.Digester.digest_length old kept page c.args.offset c.requires.page (outcome_of (Err b)) new call in
    let why = cause_of d [] (PathIsTaken page c.args.offset old new) old b new all.tells in
    record { call = subst (λ o. IsCall gives (ask_of d page c.args.offset) old o new) (asked_broken g.row.D.Denot b) call; path = tt; stay = why.0; leaves = all.leaves; cause = why.1; choice = search rules }

pub returns : goal.returns
returns g c =
    let d = g.D.Digester.digest_of in
    let page : ℕ = c.args.page in
    let old : CtlData = c.args.self.now.0 in
    let new : CtlData = c.mount.new.self.0 in
    let kept : IsKept d old = subst (λ v. IsKept d v.0) c.self.view_is c.self.invariant in
    let gives : List SlotUse → ℕ → Type 0 = FnReturnsAt g.F.Fn c.args.self.now.1 in
    let t : TakenWord = word_of_taken c.take_word.result in
    let call : IsCall gives (ask_of d page c.args.offset) old (Value t) new =
    ask_gives gives d page c.args.offset old new c.take_word.result c.in_default.ensures.call c.take_word.ensures.page c.take_word.ensures.block c.take_word.ensures.parts in
    let all = ask_tells gives d g.met.D.Digester.digest_length old kept page c.args.offset c.requires.page (Value t) new call in
    record { call = call; path = all.tells; stay = all.tells.zone.pages; leaves = all.leaves; cause = tt; choice = search rules }
