use Rattle.std.proofs.Common.{arith}
use Rattle.cc_links.specs.LinkLaws.{lowest_within}
use Rattle.cc_node.proofs.node.keeps_all.Goals as goal

pub keeps_posts-requires : goal.keeps_posts-requires
keeps_posts-requires c =
    let p = c.args.core.now in
    let fits = lowest_within p.churn.changes.left p.posts p.links c.requires.links in
    omega (arith, fits, c.last.ensures, c.posts.ensures, c.lowest.ensures, c.if-last-posts.false)
