-- The codes of refusals.
use Rattle.std.specs.Prelude.{ℕ, List, codes}
use Rattle.lu_refine.specs.declared.shrink_fault.ShrinkFault.{ShrinkFault}
use Rattle.lu_refine.specs.declared.shrink_fault.ShrinkFault.TheVariants as shrink
use Rattle.lu_refine.specs.declared.campaigns.CampaignFault.{CampaignFault}
use Rattle.lu_refine.specs.declared.campaigns.CampaignFault.TheVariants as campaign

abbrev pub shrink_code_of : ShrinkFault → List ℕ
shrink_code_of (shrink.NotFailing r) = codes "X2"
shrink_code_of shrink.Memory = codes "memory"

abbrev pub campaign_code_of : CampaignFault → List ℕ
campaign_code_of campaign.Candidates = codes "G2"
campaign_code_of campaign.Limit = codes "G3"
campaign_code_of campaign.Memory = codes "memory"
