use Rattle.pls_names.proofs.named.SchemeByNameScheme.mark.Goals as goal

pub returns-clause-lacking : goal.returns-clause-lacking
returns-clause-lacking g c = c.mark_named.ensures.marking.lacking

pub returns-clause-holds : goal.returns-clause-holds
returns-clause-holds g c = c.mark_named.ensures.marking.has

pub returns-clause-accepted : goal.returns-clause-accepted
returns-clause-accepted g c = c.mark_named.ensures.marking.accepted
