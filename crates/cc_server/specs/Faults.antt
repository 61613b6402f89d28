-- Why a node doesn't run.
--     of_site   why, where the files of its folder weren't opened
use Rattle.cc_site.specs.declared.site_fault.SiteFault.{SiteFault}
use Rattle.cc_site.specs.declared.site_fault.SiteFault.TheVariants as site
use Rattle.cc_checkpoint.specs.declared.open_fault.OpenFault.TheVariants as opening
use Rattle.cc_server.specs.declared.run_fault.RunFault.{RunFault}
use Rattle.cc_server.specs.declared.run_fault.RunFault.TheVariants as faults

abbrev pub of_site : SiteFault → RunFault
of_site (site.Device fault) = faults.Open (opening.Device fault)
of_site site.NoMemory = faults.NoMemory
