use Rattle.cc_web.proofs.Texts.{named_type}
use Rattle.cc_web.proofs.body.is_type.Goals as goal

pub returns : goal.returns
returns c =
    named_type c.args.value.now c.front_of-front.result.now c.front_of.result.now c.args.name.now c.eq_ignore_ascii_case.result
    c.front_of-front.ensures c.front_of.ensures c.eq_ignore_ascii_case.ensures.test c.requires
