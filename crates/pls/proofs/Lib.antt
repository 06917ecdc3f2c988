mod Limits
mod RejectedRules
