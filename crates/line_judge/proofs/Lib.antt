mod JudgeLaws
