use Rattle.std.proofs.Common.{◌≡◌, ◌+◌, ◌≤◌, length, Ok, refl, ◌∙◌, lit≤}
use Rattle.model.specs.declared.Verdict.TheVariants.{Safe, Unsafe, Unfinished}
use Rattle.rules.specs.Subjects.{setting_of}
use Rattle.inquiry.specs.Calls.{in_use}
use Rattle.inquiry.specs.Histories.{opened_on}
use Rattle.one_link.proofs.Calls.{void_refuses, right, finishes}
use Rattle.one_link.proofs.linked.verdict_with.Goals as goal

pub returns-clause-no_bad_run : goal.returns-clause-no_bad_run
returns-clause-no_bad_run g c =
    let told = right g.R.AccessRule.meaning g.W.Watch.watching c.args.on.now (length c.args.facts.now) (length c.args.edges.now) c.args.edge 4294967295 c.histories_obey_the_law.ensures c.open-inquiry.result c.link-linked.new.self c.dig-dug.new.self c.open-inquiry.new.edges c.link-linked.new.edges c.link-linked.result c.in_ok-linked.field-0 c.dig-dug.result _ c.close-report.result c.in_ok-report.field-0
    c.open-inquiry.ensures.history c.open-inquiry.ensures.refusal (λ why void. c.link-linked.ensures.answer ∙ void_refuses (setting_of g.R.AccessRule.meaning g.W.Watch.watching c.args.on.now (in_use c.open-inquiry.result c.open-inquiry.new.edges)) c.open-inquiry.result c.open-inquiry.new.edges c.args.edge (c.open-inquiry.result.opening.used + 1) why void) (c.link-linked.ensures.history (length c.args.facts.now) (length c.args.edges.now)) c.in_ok-linked.was
    (c.dig-dug.ensures.history (length c.args.facts.now) (length c.args.edges.now)) (c.close-report.ensures.history (opened_on g.R.AccessRule.meaning g.W.Watch.watching c.args.on.now (length c.args.facts.now) (length c.args.edges.now)) refl) c.in_ok-report.was in
    λ e. let safe : c.in_ok-report.field-0.verdict ≡ Safe = cc in told.safe safe

pub returns-clause-bad_run : goal.returns-clause-bad_run
returns-clause-bad_run g c =
    let told = right g.R.AccessRule.meaning g.W.Watch.watching c.args.on.now (length c.args.facts.now) (length c.args.edges.now) c.args.edge 4294967295 c.histories_obey_the_law.ensures c.open-inquiry.result c.link-linked.new.self c.dig-dug.new.self c.open-inquiry.new.edges c.link-linked.new.edges c.link-linked.result c.in_ok-linked.field-0 c.dig-dug.result _ c.close-report.result c.in_ok-report.field-0
    c.open-inquiry.ensures.history c.open-inquiry.ensures.refusal (λ why void. c.link-linked.ensures.answer ∙ void_refuses (setting_of g.R.AccessRule.meaning g.W.Watch.watching c.args.on.now (in_use c.open-inquiry.result c.open-inquiry.new.edges)) c.open-inquiry.result c.open-inquiry.new.edges c.args.edge (c.open-inquiry.result.opening.used + 1) why void) (c.link-linked.ensures.history (length c.args.facts.now) (length c.args.edges.now)) c.in_ok-linked.was
    (c.dig-dug.ensures.history (length c.args.facts.now) (length c.args.edges.now)) (c.close-report.ensures.history (opened_on g.R.AccessRule.meaning g.W.Watch.watching c.args.on.now (length c.args.facts.now) (length c.args.edges.now)) refl) c.in_ok-report.was in
    λ e. let unsafe : c.in_ok-report.field-0.verdict ≡ Unsafe = cc in told.unsafe unsafe

pub returns-clause-decides : goal.returns-clause-decides
returns-clause-decides g c =
    let told = finishes g.R.AccessRule.meaning g.W.Watch.watching c.args.on.now (length c.args.facts.now) (length c.args.edges.now) c.args.edge 4294967295 c.histories_obey_the_law.ensures c.open-inquiry.result c.link-linked.new.self c.dig-dug.new.self c.open-inquiry.new.edges c.link-linked.new.edges c.link-linked.result c.in_ok-linked.field-0 c.dig-dug.result _ c.close-report.result c.in_ok-report.field-0
    c.open-inquiry.ensures.history c.open-inquiry.ensures.refusal (λ why void. c.link-linked.ensures.answer ∙ void_refuses (setting_of g.R.AccessRule.meaning g.W.Watch.watching c.args.on.now (in_use c.open-inquiry.result c.open-inquiry.new.edges)) c.open-inquiry.result c.open-inquiry.new.edges c.args.edge (c.open-inquiry.result.opening.used + 1) why void) (c.link-linked.ensures.history (length c.args.facts.now) (length c.args.edges.now)) c.in_ok-linked.was
    (c.dig-dug.ensures.history (length c.args.facts.now) (length c.args.edges.now)) (c.close-report.ensures.history (opened_on g.R.AccessRule.meaning g.W.Watch.watching c.args.on.now (length c.args.facts.now) (length c.args.edges.now)) refl) c.in_ok-report.was (lit≤ tt) in
    λ e. let left : c.in_ok-report.field-0.verdict ≡ Unfinished = cc in told left
