use Rattle.cc_status.proofs.Lawful.{page_heads, wrong_heads}
use Rattle.cc_status.proofs.answer.answers_have_lawful_heads.Goals as goal

pub returns-clause-page : goal.returns-clause-page
returns-clause-page c = page_heads

pub returns-clause-wrong : goal.returns-clause-wrong
returns-clause-wrong c = wrong_heads
